-- The errands that wait in order of arrival, and by which choice one of them is served next. All of it is read off a
-- queue's history alone.
use Rattle.std.specs.Prelude.{ℕ, Bool, cond, List, [], ◌∷◌, ◌++◌, map, Some, None, Option, ◌==◌}
use Rattle.std.specs.List.{filter_map}
use Rattle.std.specs.Option.{option_map}
use Rattle.model.specs.Histories.{Choice, Event, History, was_put, was_spent, was_taken}
use Rattle.model.specs.Queues.{one_less}
use Rattle.model.specs.declared.errands.Errand.{Errand}
use Rattle.queue.specs.Ratings.{more_for_one}

-- An errand that arrived and waits: as it was put, and as it waits, with its units left.
pub record Arrival : Type 0 where
  pub put : Errand
  pub waits : Errand

-- The errand of the number n is taken out; any other stays.
abbrev pub taken : ℕ → Arrival → Option Arrival
taken n a = cond (a.waits.number == n) None (Some a)

-- A unit is spent on the errand of the number n: it has one less, and is gone where that was its last. Any other stays.
abbrev pub spent : ℕ → Arrival → Option Arrival
spent n a =
    cond (a.waits.number == n) (option_map (λ e. record { put = a.put; waits = e }) (one_less a.waits)) (Some a)

-- What waits after one event more: what was put arrives last.
abbrev pub after : List Arrival → Event → List Arrival
after came (was_put e) = came ++ record { put = e; waits = e } ∷ []
after came (was_spent n) = filter_map (spent n) came
after came (was_taken n) = filter_map (taken n) came

-- What waits after all that happened, the oldest event first.
abbrev pub after_all : List Arrival → History → List Arrival
after_all came [] = came
after_all came (x ∷ xs) = after_all (after came x) xs

-- What waits after a history, the errand that was put earliest first.
abbrev pub arrived : History → List Arrival
arrived past = after_all [] past

-- The number of the first of them.
abbrev pub first_of : List Arrival → Option ℕ
first_of [] = None
first_of (a ∷ came) = Some a.waits.number

-- The choice of the queue that serves errands as they come: of those that wait, the one that was put earliest.
abbrev pub earliest : Choice
earliest past = first_of (arrived past)

-- An errand that waits, rated by a worth for so many units.
pub record Rated : Type 0 where
  pub errand : Errand
  pub worth : ℕ
  pub units : ℕ

-- What arrived, rated by the worth and the units that are given for the errand as it was put.
abbrev pub rated : (Errand → ℕ) → (Errand → ℕ) → Arrival → Rated
rated worth units a = record { errand = a.waits; worth = worth a.put; units = units a.put }

-- a has more worth for a unit than b.
abbrev pub better : Rated → Rated → Bool
better a b = more_for_one a.worth a.units b.worth b.units

-- The best of b and of those that arrived after it, one by one: a later one only if it is better than the best before.
abbrev pub best_from : Rated → List Rated → Rated
best_from b [] = b
best_from b (a ∷ came) = best_from (cond (better a b) a b) came

-- The number of the best of them, on a tie of the one that arrived earliest.
abbrev pub best_of : List Rated → Option ℕ
best_of [] = None
best_of (a ∷ came) = Some (best_from a came).errand.number

-- The choice of a queue that rates: of those that wait, the best rated, on a tie the one that was put earlier.
abbrev pub best_rated : (Errand → ℕ) → (Errand → ℕ) → Choice
best_rated worth units past = best_of (map (rated worth units) (arrived past))

-- What waits after a history, rated by its worth for the units that it was put with.
abbrev pub by_worth : History → List Rated
by_worth past = map (rated (λ e. e.worth) (λ e. e.units)) (arrived past)

-- The choice of the queue by worth: the best of them.
abbrev pub best_worth : Choice
best_worth past = best_of (by_worth past)
