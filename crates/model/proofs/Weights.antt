-- What stands under each number of a list of errands adds up to what stands in the list, whatever is counted of an errand. A list has
-- each number once, so that none is counted twice or passed over, and a bound above every number in it exists since it is finite.
use Rattle.std.proofs.Common.{◌≡◌, ℕ, suc, ◌+◌, ◌<◌, ◌≤◌, true, cond, not, ◌&&◌, ◌==◌, List, [], ◌∷◌, is_some, Some, None, Option, sym, refl, ap, ◌∙◌, subst, ⊎_elim, arith}
use Rattle.std.proofs.lemmas.Bool.{and_parts, cases_eq, cond-false, cond-true, eq-eqb, ne_eqb, not-true}
use Rattle.model.specs.Queues.{look, errand_within, distinct}
use Rattle.model.specs.declared.errands.Errand.{Errand}
use Rattle.model.proofs.Searches.{none_is}
use Rattle.model.proofs.Sums.{sum_to, sum_none, sum_same, sum_both, sum_alone}

-- Above the number of each errand in a list.
abbrev pub list_bound : List Errand → ℕ
list_bound [] = 0
list_bound (e ∷ es) = suc e.number + list_bound es

-- What stands under one number is what stands under all.
pub under_one_number : (bound k x : ℕ) → k < bound → sum_to (λ n. cond (k == n) x 0) bound ≡ x
under_one_number bound k x below =
    sum_alone (λ n. cond (k == n) x 0) k bound below
    (λ n h other. cond-false (k == n) x 0 (ne_eqb k n (λ same. other (sym same))))
    ∙ cond-true (k == k) x 0 (eq-eqb k k refl)

module _ (weight : Errand → ℕ) where
  -- What is counted of the errand that a number looks up as.
  abbrev pub weight_of : Option Errand → ℕ
  weight_of None = 0
  weight_of (Some e) = weight e

  abbrev pub total_weight : List Errand → ℕ
  total_weight [] = 0
  total_weight (e ∷ es) = weight e + total_weight es

  -- A list has what is counted of its first errand under that number, and of the others as it was.
  weight_first :
      (e : Errand) (es : List Errand) (n : ℕ) → look es e.number ≡ None
      → weight_of (look (e ∷ es) n) ≡ cond (e.number == n) (weight e) 0 + weight_of (look es n)
  weight_first e es n new =
      ⊎_elim
      (λ (same : e.number ≡ n).
      let yes = eq-eqb e.number n same in
      let none : weight_of (look es n) ≡ 0 = ap weight_of (subst (λ k. look es k ≡ None) same new) in
      ap weight_of (cond-true (e.number == n) (Some e) (look es n) yes)
      ∙ omega (arith, cond-true (e.number == n) (weight e) 0 yes, none))
      (λ (other : e.number ≡ n → ⊥).
      let no = ne_eqb e.number n other in
      ap weight_of (cond-false (e.number == n) (Some e) (look es n) no)
      ∙ omega (arith, cond-false (e.number == n) (weight e) 0 no))
      (cases_eq e.number n)

  pub weight_of_all_numbers :
      (bound : ℕ) (es : List Errand) → distinct es ≡ true → list_bound es ≤ bound
      → sum_to (λ n. weight_of (look es n)) bound ≡ total_weight es
  weight_of_all_numbers bound [] apart below = sum_none (λ n. 0) bound (λ n h. refl)
  weight_of_all_numbers bound (e ∷ es) apart below =
      let (own, rest) = and_parts (errand_within e && not (is_some (look es e.number))) (distinct es) apart in
      let (within, new) = and_parts (errand_within e) (not (is_some (look es e.number))) own in
      let none = none_is (look es e.number) (not-true (is_some (look es e.number)) new) in
      sum_same (λ n. weight_of (look (e ∷ es) n)) (λ n. cond (e.number == n) (weight e) 0 + weight_of (look es n)) bound
      (λ n h. weight_first e es n none)
      ∙ omega (
        arith,
        sum_both (λ n. cond (e.number == n) (weight e) 0) (λ n. weight_of (look es n)) bound,
        under_one_number bound e.number (weight e) (omega arith),
        weight_of_all_numbers bound es rest (omega arith),
      )
