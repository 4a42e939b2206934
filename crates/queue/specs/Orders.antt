-- Which histories lead to the list of a queue, and that the queue then names the errand of its choice.
use Rattle.std.specs.Prelude.{◌≡◌, ℕ, true, false, cond, List, [], ◌∷◌, map, Some, refl}
use Rattle.std.proofs.Common.{ap, ◌∙◌}
use Rattle.model.specs.Histories.{History}
use Rattle.model.specs.declared.errands.Errand.{Errand}
use Rattle.list.specs.Held.{held}
use Rattle.list.specs.Order.{placed}
use Rattle.list.specs.declared.ordered.OrderedList.{OrderedList}
use Rattle.queue.specs.Arrivals.{Rated, arrived, best_from, best_of, best_rated, rated}
use Rattle.queue.specs.Lists.{errands, first_number, list_meaning}
use Rattle.queue.specs.Ranks.{ranks}
use Rattle.queue.specs.declared.slots.Slot.{Slot}

-- The errand of a slot, with its rating.
abbrev pub rated_in : Slot → Rated
rated_in s = record { errand = s.errand; worth = s.rating.worth; units = s.rating.units }

-- A list after slots were put there one by one, the earliest first, each before the first that it outrates.
abbrev pub placed_all : List Slot → List Slot → List Slot
placed_all list [] = list
placed_all list (s ∷ ss) = placed_all (placed ranks s list) ss

-- The list is what a history leads to: what its slots would be had the errands that wait after the history been put there in order
-- of arrival, each rated by the worth and the units that a rule gives for it.
pub record Arises (worth units : Errand → ℕ) (past : History) (list : List Slot) : Type 0 where
  pub came : List Slot
  pub by_rank : list ≡ placed_all [] came
  pub arrivals : map rated_in came ≡ map (rated worth units) (arrived past)

-- Some history leads to the list.
abbrev pub Arose : (worth units : Errand → ℕ) → List Slot → Type 0
Arose worth units list = ∥ ((past : History) × Arises worth units past list) ∥₁

-- The first of a list is the best of those that were put there.
first_placed_all : (b : Slot) (list came : List Slot) →
    first_number (errands (placed_all (b ∷ list) came)) ≡ Some (best_from (rated_in b) (map rated_in came)).errand.number
first_placed_all b list [] = refl
first_placed_all b list (s ∷ came) =
    elim (ranks s b)
    as (λ t.
    first_number (errands (placed_all (cond t (s ∷ b ∷ list) (b ∷ placed ranks s list)) came))
    ≡ Some (best_from (cond t (rated_in s) (rated_in b)) (map rated_in came)).errand.number)
    [ true ↦ first_placed_all s (b ∷ list) came | false ↦ first_placed_all b (placed ranks s list) came ]

first_is_best : (came : List Slot) → first_number (errands (placed_all [] came)) ≡ best_of (map rated_in came)
first_is_best [] = refl
first_is_best (s ∷ came) = first_placed_all s [] came

pub list_chooses : {R : _} (worth units : Errand → ℕ) (past : History) (l : OrderedList Slot R) →
    Arises worth units past (held l) → (list_meaning l).named ≡ best_rated worth units past
list_chooses worth units past l arose =
    ap (λ ss. first_number (errands ss)) arose.by_rank ∙ first_is_best arose.came ∙ ap best_of arose.arrivals
