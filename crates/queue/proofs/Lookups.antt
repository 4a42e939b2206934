-- Looking numbers up among the errands that wait.
use Rattle.std.proofs.Common.{◌≡◌, ℕ, ◌+◌, true, false, cond, eqb, nat_lt, List, [], ◌∷◌, length, is_some, Some, None, Option, sym, refl, ap, ◌∙◌, ⊎_elim}
use Rattle.std.specs.List.{find, slice_get, position_from, position_or_len}
use Rattle.std.specs.Option.{option_map}
use Rattle.std.proofs.lemmas.Iterator.Adapters.{position_from-zero}
use Rattle.std.proofs.lemmas.List.Folds.{find_at}
use Rattle.std.proofs.lemmas.Bool.{and_from, and_parts, not-true, not_from_false, cond-false, cond-true, cond_both, eqb-true, cases_Bool}
use Rattle.model.specs.Queues.{look, distinct, errand_within}
use Rattle.model.specs.declared.errands.Errand.{Errand}
use Rattle.queue.specs.Lists.{errands, has_number, place_of}
use Rattle.queue.specs.declared.slots.Slot.{Slot}

pub none_from_test : {X : Type 0} (o : Option X) → is_some o ≡ false → o ≡ None
none_from_test None h = refl
none_from_test (Some x) h = cc

pub look_number : (es : List Errand) (n : ℕ) (e : Errand) → look es n ≡ Some e → e.number ≡ n
look_number [] n e h = cc
look_number (x ∷ es) n e h =
    ⊎_elim
    (λ t. let same : Some x ≡ Some e = sym (cond-true _ (Some x) (look es n) t) ∙ h in
    let number : x.number ≡ n = eqb-true _ _ t in cc)
    (λ f. look_number es n e (sym (cond-false _ (Some x) (look es n) f) ∙ h)) (cases_Bool (eqb x.number n))

-- A number has a place among the slots exactly when it waits.
waits_behind : (n i : ℕ) (ss : List Slot) → is_some (position_from (has_number n) i ss) ≡ is_some (look (errands ss) n)
waits_behind n i [] = refl
waits_behind n i (s ∷ ss) =
    elim (eqb s.errand.number n)
    as (λ b.
    is_some (cond b (Some i) (position_from (has_number n) (i + 1) ss)) ≡ is_some (cond b (Some s.errand) (look (errands ss) n)))
    [ true ↦ refl | false ↦ waits_behind n (i + 1) ss ]

pub waits_somewhere : (n : ℕ) (ss : List Slot) → is_some (place_of n ss) ≡ is_some (look (errands ss) n)
waits_somewhere n ss = ap is_some (position_from-zero (has_number n) ss) ∙ waits_behind n 0 ss

pub waits_nowhere : (n : ℕ) (ss : List Slot) → is_some (place_of n ss) ≡ false → look (errands ss) n ≡ None
waits_nowhere n ss h = none_from_test _ (sym (waits_somewhere n ss) ∙ h)

-- The slot of a number is the one at its place.
pub place_is : (n : ℕ) (ss : List Slot) (i : ℕ) → place_of n ss ≡ Some i → position_or_len (has_number n) ss ≡ i
place_is n ss i =
    let first = position_or_len (has_number n) ss in
    cond_both (nat_lt first (length ss)) (Some first) None (λ o. o ≡ Some i → first ≡ i) (λ _ h. cc) (λ _ h. cc)

pub found_at : (n : ℕ) (ss : List Slot) (i : ℕ) → place_of n ss ≡ Some i → find (has_number n) ss ≡ slice_get ss i
found_at n ss i at = find_at (has_number n) ss ∙ ap (slice_get ss) (place_is n ss i at)

pub look_is_found : (n : ℕ) (ss : List Slot) → look (errands ss) n ≡ option_map (λ s. s.errand) (find (has_number n) ss)
look_is_found n [] = refl
look_is_found n (s ∷ ss) =
    elim (eqb s.errand.number n)
    as (λ b. cond b (Some s.errand) (look (errands ss) n) ≡ option_map (λ x. x.errand) (cond b (Some s) (find (has_number n) ss)))
    [ true ↦ refl | false ↦ look_is_found n ss ]

-- What the fact that each errand is within its limits and waits once says of the first.
pub record FirstOnce (e : Errand) (es : List Errand) : Type 0 where
  pub within : errand_within e ≡ true
  pub alone : look es e.number ≡ None
  pub rest : distinct es ≡ true

pub first_once : (e : Errand) (es : List Errand) → distinct (e ∷ es) ≡ true → FirstOnce e es
first_once e es h =
    let p = and_parts _ _ h in
    let q = and_parts _ _ p.0 in
    record { within = q.0; alone = none_from_test _ (not-true _ q.1); rest = p.1 }

pub once_more : (e : Errand) (es : List Errand) → FirstOnce e es → distinct (e ∷ es) ≡ true
once_more e es f =
    and_from _ _ (and_from _ _ f.within (not_from_false _ (ap is_some f.alone))) f.rest
