-- What becomes of the one of a number among others: it is changed, or it goes, and any other stays. Slots, errands that wait and
-- errands with their ratings all change so.
use Rattle.std.proofs.Common.{◌≡◌, ℕ, true, false, cond, eqb, List, [], ◌∷◌, map, Some, None, Option, sym, refl, ap, ◌∙◌}
use Rattle.std.specs.List.{cons_option, filter_map}
use Rattle.std.specs.Option.{option_map}
use Rattle.std.proofs.lemmas.Bool.{cond_both, cond-false, ne_eqb}
use Rattle.model.specs.Queues.{look}
use Rattle.model.specs.declared.errands.Errand.{Errand}
use Rattle.queue.proofs.LookupsAfter.{none_apart, none_behind}

-- The one of the number n becomes what f makes of it, if anything.
abbrev pub at_number : {A : Type 0} → (A → ℕ) → (A → Option A) → ℕ → A → Option A
at_number number f n x = cond (eqb (number x) n) (f x) (Some x)

-- Whatever becomes of one has the same part.
abbrev pub Keeps : {A B : Type 0} → (A → B) → (A → Option A) → Type 0
Keeps {A} part f = (x y : A) → f x ≡ Some y → part y ≡ part x

pub keeps_at_number : {A B : Type 0} (part : A → B) (number : A → ℕ) (f : A → Option A) → Keeps part f → (n : ℕ) →
    Keeps part (at_number number f n)
keeps_at_number part number f keeps n x y =
    cond_both (eqb (number x) n) (f x) (Some x) (λ o. o ≡ Some y → part y ≡ part x)
    (λ _. keeps x y)
    (λ _ is. let same : x ≡ y = cc in ap part (sym same))

pub other_stays : {A : Type 0} (number : A → ℕ) (f : A → Option A) (n : ℕ) (x : A) → (number x ≡ n → ⊥) →
    at_number number f n x ≡ Some x
other_stays number f n x apart = cond-false _ _ _ (ne_eqb _ _ apart)

-- Where no errand has the number, all stay.
pub all_stay : {A : Type 0} (errand : A → Errand) (f : A → Option A) (n : ℕ) (xs : List A) → look (map errand xs) n ≡ None →
    filter_map (at_number (λ x. (errand x).number) f n) xs ≡ xs
all_stay errand f n [] none = refl
all_stay errand f n (x ∷ xs) none =
    ap (λ o. cons_option o (filter_map (at_number (λ y. (errand y).number) f n) xs))
    (other_stays (λ y. (errand y).number) f n x (none_apart (errand x) (map errand xs) n none))
    ∙ ap (λ ys. x ∷ ys) (all_stay errand f n xs (none_behind (errand x) (map errand xs) n none))

map_front : {A B : Type 0} (see : A → B) (o : Option A) (xs : List A) →
    map see (cons_option o xs) ≡ cons_option (option_map see o) (map see xs)
map_front see None xs = refl
map_front see (Some x) xs = refl

-- To change the one of a number and then to look at each is to look at each first, and then to change what is seen.
module _ {A B : Type 0} (see : A → B) (number : B → ℕ) (f : A → Option A) (g : B → Option B)
    (same : (x : A) → option_map see (f x) ≡ g (see x)) (n : ℕ) where
  seen_at_number : (x : A) → option_map see (at_number (λ y. number (see y)) f n x) ≡ at_number number g n (see x)
  seen_at_number x =
      elim (eqb (number (see x)) n)
      as (λ b. option_map see (cond b (f x) (Some x)) ≡ cond b (g (see x)) (Some (see x))) [ true ↦ same x | false ↦ refl ]

  pub map_at_number : (xs : List A) →
      map see (filter_map (at_number (λ y. number (see y)) f n) xs) ≡ filter_map (at_number number g n) (map see xs)
  map_at_number [] = refl
  map_at_number (x ∷ xs) =
      map_front see (at_number (λ y. number (see y)) f n x) (filter_map (at_number (λ y. number (see y)) f n) xs)
      ∙ ap (λ o. cons_option o (map see (filter_map (at_number (λ y. number (see y)) f n) xs))) (seen_at_number x)
      ∙ ap (cons_option (at_number number g n (see x))) (map_at_number xs)
