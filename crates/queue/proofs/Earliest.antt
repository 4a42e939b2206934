-- Where all are rated alike, the best is the one that arrived earliest.
use Rattle.std.proofs.Common.{◌≡◌, false, List, [], ◌∷◌, map, Some, refl, ap, ◌∙◌, zero-mul, arith}
use Rattle.std.proofs.lemmas.Bool.{cond-false, le-ltb}
use Rattle.model.specs.Histories.{History}
use Rattle.queue.specs.Arrivals.{Arrival, Rated, arrived, best_from, best_of, best_rated, better, earliest, first_of, rated}

none_better : (b : Rated) (came : List Arrival) → b.worth ≡ 0 →
    best_from b (map (rated (λ _. 0) (λ _. 1)) came) ≡ b
none_better b [] none = refl
none_better b (a ∷ came) none =
    let a' = rated (λ _. 0) (λ _. 1) a in
    let behind : better a' b ≡ false = le-ltb _ _ (omega (arith, none, zero-mul b.units)) in
    ap (λ x. best_from x (map (rated (λ _. 0) (λ _. 1)) came)) (cond-false (better a' b) a' b behind) ∙ none_better b came none

first_of_alike : (came : List Arrival) → best_of (map (rated (λ _. 0) (λ _. 1)) came) ≡ first_of came
first_of_alike [] = refl
first_of_alike (a ∷ came) =
    ap (λ (r : Rated). Some r.errand.number) (none_better (rated (λ _. 0) (λ _. 1) a) came refl)

pub alike_by_arrival : (past : History) → best_rated (λ _. 0) (λ _. 1) past ≡ earliest past
alike_by_arrival past = first_of_alike (arrived past)
