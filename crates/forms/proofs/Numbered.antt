-- Digits read into values, and items read as so many numbers.
use Rattle.std.proofs.Common.{◌≡◌, ℕ, suc, ◌+◌, ◌-◌, ◌*◌, ◌<◌, min, Bool, true, false, ◌&&◌, ◌==◌, List, [], ◌∷◌, ◌++◌, length, take, set, Some, None, Option, refl, ap, ◌∙◌, arith}
use Rattle.std.specs.List.{fold, list_all}
use Rattle.std.specs.Option.{option_map}
use Rattle.std.proofs.lemmas.List.{append_assoc, take_more_set}
use Rattle.forms.specs.Forms.{digit}
use Rattle.forms.specs.Grammar.{all_of}
use Rattle.forms.specs.Items.{is_number, largest, numbers, value, value_after}

all_listed : (passes : ℕ → Bool) (bs : List ℕ) → list_all passes bs ≡ all_of passes bs
all_listed passes [] = refl
all_listed passes (b ∷ bs) = ap (λ (rest : Bool). passes b && rest) (all_listed passes bs)

pub number_by_digits : (i : List ℕ) (r : Bool) → false ≡ (length i == 0) → r ≡ list_all digit i → r ≡ is_number i
number_by_digits [] r some all = cc
number_by_digits (b ∷ bs) r some all = all ∙ all_listed digit (b ∷ bs)

-- The next byte's digit, at most the largest number.
abbrev pub with_digit : ℕ → ℕ → ℕ
with_digit v b = min (min (v * 10) largest + (b - 48)) largest

-- The value is put together digit by digit.
pub value_by_fold : (v : ℕ) (bs : List ℕ) → fold with_digit v bs ≡ value_after v bs
value_by_fold v [] = refl
value_by_fold v (b ∷ bs) =
    let same : with_digit v b ≡ min (v * 10 + (b - 48)) largest = omega arith in
    value_by_fold (with_digit v b) bs ∙ ap (λ n. value_after n bs) same

-- With k of n values read, these and the values of the items left are all of the values.
abbrev pub Ahead : ℕ → ℕ → List ℕ → List (List ℕ) → Option (List ℕ) → Type 0
Ahead n k values left all = option_map (λ (vs : List ℕ). take k values ++ vs) (numbers (n - k) left) ≡ all

joined_on : (xs : List ℕ) (v : ℕ) (o : Option (List ℕ))
    → option_map (λ (vs : List ℕ). (xs ++ v ∷ []) ++ vs) o ≡ option_map (λ (vs : List ℕ). xs ++ vs) (option_map (λ (vs : List ℕ). v ∷ vs) o)
joined_on xs v None = refl
joined_on xs v (Some vs) = ap Some (append_assoc xs (v ∷ []) vs)

-- Before the number at k of n is read: the values so far, the item that is this number, and the items behind it.
pub record NextNumber (n k : ℕ) (all : Option (List ℕ)) : Type 0 where
  pub values : List ℕ
  pub item : List ℕ
  pub later : List (List ℕ)
  pub before : k < n
  pub room : k < length values
  pub is_digits : is_number item ≡ true
  pub ahead : Ahead n k values (item ∷ later) all

pub number_read : (n k : ℕ) (all : Option (List ℕ)) (next : NextNumber n k all)
    → Ahead n (k + 1) (set next.values k (value next.item)) next.later all
number_read n k all next =
    let values = next.values in
    let item = next.item in
    let rest = numbers (n - (k + 1)) next.later in
    let before = next.before in
    let more : n - k ≡ suc (n - (k + 1)) = omega arith in
    ap (λ (xs : List ℕ). option_map (λ (vs : List ℕ). xs ++ vs) rest) (take_more_set values k (value item) next.room)
    ∙ joined_on (take k values) (value item) rest
    ∙ rw (more, next.is_digits) at next.ahead
