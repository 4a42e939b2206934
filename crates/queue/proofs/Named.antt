-- The choices of the two queues name an errand that waits, wherever one does, and none where none does.
use Rattle.std.proofs.Common.{◌≡◌, ℕ, true, eqb, List, [], ◌∷◌, map, is_some, Some, refl, ap}
use Rattle.std.specs.List.{AllByRecursion}
use Rattle.std.proofs.ByRecursion.{All-weaker}
use Rattle.std.proofs.lemmas.Bool.{cond_both}
use Rattle.model.specs.Queues.{look, names_right}
use Rattle.model.specs.declared.errands.Errand.{Errand}
use Rattle.queue.proofs.QueueAfter.{NamesRight}
use Rattle.queue.proofs.Waiting.{waiting_of}
use Rattle.queue.specs.Arrivals.{Arrival, Rated, arrived, best_from, best_of, best_rated, better, earliest, first_of, rated}
use Rattle.queue.proofs.LookupsAfter.{look_first}

-- The best of some is one of them.
best_is_one : (P : Rated → Type 0) (b : Rated) (came : List Rated) → P b → AllByRecursion P came → P (best_from b came)
best_is_one P b [] this those = this
best_is_one P b (a ∷ came) this those =
    cond_both (better a b) a b (λ (x : Rated). P (best_from x came))
    (λ _. best_is_one P a came those.0 those.1)
    (λ _. best_is_one P b came this those.1)

-- The errand of a number waits.
abbrev Waits : List Errand → Rated → Type 0
Waits es r = is_some (look es r.errand.number) ≡ true

waits_behind : (e : Errand) (es : List Errand) (r : Rated) → Waits es r → Waits (e ∷ es) r
waits_behind e es r waits =
    cond_both (eqb e.number r.errand.number) (Some e) (look es r.errand.number) (λ o. is_some o ≡ true) (λ _. refl) (λ _. waits)

-- The first of some waits.
first_waits : (a : Arrival) (came : List Arrival) → is_some (look (waiting_of (a ∷ came)) a.waits.number) ≡ true
first_waits a came = ap is_some (look_first a.waits (waiting_of came))

module _ (worth units : Errand → ℕ) where
  all_wait : (came : List Arrival) → AllByRecursion (Waits (waiting_of came)) (map (rated worth units) came)
  all_wait [] = tt
  all_wait (a ∷ came) = (
    first_waits a came,
    All-weaker (Waits (waiting_of came)) (Waits (waiting_of (a ∷ came))) (waits_behind a.waits (waiting_of came))
        (map (rated worth units) came) (all_wait came),
  )

  best_named : (came : List Arrival) → names_right (waiting_of came) (best_of (map (rated worth units) came)) ≡ true
  best_named [] = refl
  best_named (a ∷ came) =
      let all = all_wait (a ∷ came) in
      best_is_one (Waits (waiting_of (a ∷ came))) (rated worth units a) (map (rated worth units) came) all.0 all.1

  -- The choice of a queue that rates errands does,
  pub best_names_right : NamesRight (best_rated worth units)
  best_names_right past = best_named (arrived past)

first_named : (came : List Arrival) → names_right (waiting_of came) (first_of came) ≡ true
first_named [] = refl
first_named (a ∷ came) = first_waits a came

-- and so does the choice of the errand that was put earliest.
pub earliest_names_right : NamesRight earliest
earliest_names_right past = first_named (arrived past)
