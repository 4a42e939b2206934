-- Where the first item of a form ends, and what is left behind it.
use Rattle.std.proofs.Common.{◌≡◌, ℕ, suc, Bool, true, false, cond, ◌&&◌, eqb, ltb, ◌≤◌, List, [], ◌∷◌, length, take, drop, is_some, Some, None, Option, add-one, ◌+◌, sym, refl, ap, ◌∙◌, ⊎_elim, arith, length-take}
use Rattle.std.specs.List.{list_all}
use Rattle.std.proofs.lemmas.Bool.{cases_Bool}
use Rattle.std.proofs.lemmas.Bool.Decides.{nat_tests}
use Rattle.forms.specs.Forms.{space}
use Rattle.forms.specs.Items.{FromByte, Item, bytes_of, further, item_begun_by, item_length, items, open_after, parts_of, laid_out}
use Rattle.forms.specs.Sayings.{all_calls, call}
use Rattle.forms.specs.declared.faults.Position.{Position}
use Rattle.forms.specs.declared.lines.Part.{Part}

-- What is left behind the first n bytes and the space after them.
abbrev pub left_behind : ℕ → List ℕ → List (List ℕ)
left_behind n bs = cond (ltb n (length bs)) (items 0 (drop (suc n) bs)) []

abbrev Split : ℕ → List ℕ → Type 0
Split depth bs = items depth bs ≡ take (item_length depth bs) bs ∷ left_behind (item_length depth bs) bs

split_here : (depth b : ℕ) (bs : List ℕ) → (space b && eqb depth 0) ≡ true → Split depth (b ∷ bs)
split_here depth b bs t =
    rw t
    (let room : true ≡ ltb 0 (suc (length bs)) = grind (arith, nat_tests) in
    ap (λ (e : Bool). [] ∷ cond e (items 0 bs) []) room)

split_later : (depth b : ℕ) (bs : List ℕ) → (space b && eqb depth 0) ≡ false → Split (open_after depth b) bs → Split depth (b ∷ bs)
split_later depth b bs f rest =
    rw f
    (let n = item_length (open_after depth b) bs in
    let room : ltb n (length bs) ≡ ltb (suc n) (suc (length bs)) = grind (arith, nat_tests) in
    ap (item_begun_by b) rest ∙ ap (λ (e : Bool). (b ∷ take n bs) ∷ cond e (items 0 (drop (suc n) bs)) []) room)

-- The items are the first one and those behind it.
pub items_split : (depth : ℕ) (bs : List ℕ) → Split depth bs
items_split depth [] = refl
items_split depth (b ∷ bs) =
    ⊎_elim (split_here depth b bs) (λ f. split_later depth b bs f (items_split (open_after depth b) bs)) (cases_Bool (space b && eqb depth 0))

-- What is left behind the first n bytes of a part, where its first item was cut off at n.
behind_is : (p : Part) (n : ℕ) (r : Option Part) → FromByte p (n + 1) r → parts_of r ≡ laid_out (further p.position (n + 1)) (left_behind n p.bytes.now)
behind_is p n None short =
    let past : ltb n (length p.bytes.now) ≡ false = grind (arith, nat_tests) in
    rw past
behind_is p n (Some q) (long, bytes, position) =
    let within : ltb n (length p.bytes.now) ≡ true = grind (arith, nat_tests) in
    rw (within, bytes, position, add-one n)

pub items_cut : (p : Part) (n : ℕ) (later : Option Part)
    → n ≡ item_length 0 p.bytes.now → n ≤ length p.bytes.now → FromByte p (n + 1) later
    → laid_out p.position (items 0 p.bytes.now) ≡ record { bytes = take n p.bytes.now; position = p.position } ∷ parts_of later
items_cut p n later ends within got =
    let bs = p.bytes.now in
    let size : length (take n bs) ≡ n = omega (arith, length-take n bs) in
    ap (laid_out p.position) (items_split 0 bs) ∙ rw (sym ends)
    (rw size (ap (λ is. record { bytes = take n bs; position = p.position } ∷ is) (sym (behind_is p n later got))))

-- The bytes of items that stand one behind the other.
pub bytes_laid_out : (p : Position) (is : List (List ℕ)) → bytes_of (laid_out p is) ≡ is
bytes_laid_out p [] = refl
bytes_laid_out p (i ∷ is) = ap (λ js. i ∷ js) (bytes_laid_out (further p (length i + 1)) is)

-- Every item is a call.
pub all_called : (is : List Item) → list_all (λ i. is_some (call i.bytes)) is ≡ all_calls (bytes_of is)
all_called [] = refl
all_called (i ∷ is) = ap (λ (rest : Bool). is_some (call i.bytes) && rest) (all_called is)
