-- A history that leads to a list leads, with what a call adds to it, to the list after that call.
use Rattle.std.proofs.Common.{◌≡◌, ℕ, ◌-◌, pred, true, false, cond, leb, List, [], ◌∷◌, ◌++◌, map, Some, None, Ok, Err, Option, Result, sym, refl, ap, ◌∙◌, sub-one}
use mathlib.Core.Logic.{∥∥₁_map}
use Rattle.std.specs.List.{filter_map}
use Rattle.std.specs.Option.{option_map}
use Rattle.std.proofs.lemmas.List.{map_push}
use Rattle.model.proofs.Histories.{stays_on}
use Rattle.model.specs.Histories.{GoesOn, History, by_put, was_put, was_spent, was_taken}
use Rattle.model.specs.Queues.{distinct, one_less}
use Rattle.model.specs.declared.errands.Errand.{Errand}
use Rattle.model.specs.declared.refusals.Refusal.{Refusal}
use Rattle.list.specs.Held.{held, Inserts}
use Rattle.list.specs.Order.{placed}
use Rattle.list.specs.declared.ordered.OrderedList.{OrderedList}
use Rattle.queue.specs.Arrivals.{Arrival, Rated, arrived, taken, rated, spent}
use Rattle.queue.specs.Lists.{errands}
use Rattle.queue.specs.Orders.{Arises, Arose, rated_in}
use Rattle.queue.specs.Ranks.{ranks}
use Rattle.queue.specs.Slots.{HoldsErrand, with_units}
use Rattle.queue.specs.declared.slots.Slot.{Slot}
use Rattle.queue.proofs.After.{taken_slot, less_slot, spent_slot}
use Rattle.queue.proofs.Calls.{ErrandTaken, UnitSpent}
use Rattle.queue.proofs.AtNumber.{at_number, map_at_number}
use Rattle.queue.proofs.Waiting.{after_more, less_waits, waits_as}
use Rattle.queue.proofs.PlacedAll.{each_placed_all, taken_keeps_rating, placed_all_more, first_spent_is_spent, without_is_taken, spent_keeps_rating}

-- Of errands with their ratings, the one of a number becomes what is made of it, if anything.
abbrev rated_at : (Rated → Option Rated) → ℕ → Rated → Option Rated
rated_at = at_number (λ (r : Rated). r.errand.number)

abbrev with_errand : Rated → Errand → Rated
with_errand r e = record { errand = e; worth = r.worth; units = r.units }

-- One with one unit less, or none where that was its last.
abbrev less_rated : Rated → Option Rated
less_rated r = option_map (with_errand r) (one_less r.errand)

-- The slot with one unit less is rated so,
slot_less : (s : Slot) → option_map rated_in (less_slot s) ≡ less_rated (rated_in s)
slot_less s =
    let less = λ (units : ℕ). with_units s units in
    elim (leb s.errand.units 1)
    as (λ t.
    option_map rated_in (cond t None (Some (less (s.errand.units - 1))))
    ≡ option_map (with_errand (rated_in s)) (cond t None (Some (less (pred s.errand.units)).errand)))
    [ true ↦ refl | false ↦ ap (λ units. Some (rated_in (less units))) (sub-one s.errand.units) ]

module _ (worth units : Errand → ℕ) where
  abbrev rates : Arrival → Rated
  rates = rated worth units

  -- and so is what arrived.
  arrival_less : (a : Arrival) → option_map rates (less_waits a) ≡ less_rated (rates a)
  arrival_less a =
      elim (one_less a.waits) as (λ o. option_map rates (option_map (waits_as a) o) ≡ option_map (with_errand (rates a)) o)
      [ None ↦ refl | Some e ↦ refl ]

  -- So slots that are rated as what arrived are rated so still, if the errand of a number goes from both,
  came_taken : (n : ℕ) (came : List Slot) (past : History) → map rated_in came ≡ map rates (arrived past) →
      map rated_in (filter_map (taken_slot n) came) ≡ map rates (filter_map (taken n) (arrived past))
  came_taken n came past same =
      let number = λ (r : Rated). r.errand.number in
      map_at_number rated_in number (λ _. None) (λ _. None) (λ _. refl) n came
      ∙ ap (filter_map (rated_at (λ _. None) n)) same
      ∙ sym (map_at_number rates number (λ _. None) (λ _. None) (λ _. refl) n (arrived past))

  -- or has one unit less in both.
  came_spent : (n : ℕ) (came : List Slot) (past : History) → map rated_in came ≡ map rates (arrived past) →
      map rated_in (filter_map (spent_slot n) came) ≡ map rates (filter_map (spent n) (arrived past))
  came_spent n came past same =
      let number = λ (r : Rated). r.errand.number in
      map_at_number rated_in number less_slot less_rated slot_less n came
      ∙ ap (filter_map (rated_at less_rated n)) same
      ∙ sym (map_at_number rates number less_waits less_rated arrival_less n (arrived past))

  -- Some history leads to a list that goes on from another to which one leads.
  pub still_arose : (list list' : List Slot) (added : History) → GoesOn (Arises worth units) list added list' →
      Arose worth units list → Arose worth units list'
  still_arose list list' added goes_on arose = ∥∥₁_map arose (λ (past, h). (past ++ added, goes_on past h))

  pub arises_put : {X : Type 0} {R : _} (l m : OrderedList Slot R) (s : Slot) (e : Errand) (r : Result X Refusal) →
      HoldsErrand e (worth e) (units e) s → Inserts ranks l s r m → GoesOn (Arises worth units) (held l) (by_put e r) (held m)
  arises_put l m s e (Ok x) holds done past arose =
      let is : rated_in s ≡ rates (record { put = e; waits = e }) = cc (holds.errand, holds.worth_put, holds.units_put) in
      record {
        came = arose.came ++ s ∷ [];
        by_rank = done.1.holds ∙ ap (placed ranks s) arose.by_rank ∙ sym (placed_all_more [] arose.came s);
        arrivals =
            map_push rated_in arose.came s ∙ ap (λ rs. rs ++ rated_in s ∷ []) arose.arrivals
            ∙ ap (λ r. map rates (arrived past) ++ r ∷ []) is
            ∙ sym (map_push rates (arrived past) (record { put = e; waits = e }))
            ∙ ap (map rates) (sym (after_more [] past (was_put e)));
      }
  arises_put l m s e (Err why) holds done past arose =
      stays_on (Arises worth units) (held l) (held m) (ap held done.2) past arose

  pub arises_spend : {R : _} (l m : OrderedList Slot R) (n : ℕ) → distinct (errands (held l)) ≡ true → UnitSpent l n m →
      GoesOn (Arises worth units) (held l) (was_spent n ∷ []) (held m)
  arises_spend l m n once done past arose =
      record {
        came = filter_map (spent_slot n) arose.came;
        by_rank =
            done.slots ∙ first_spent_is_spent n (held l) done.spends.0 once ∙ ap (filter_map (spent_slot n)) arose.by_rank
            ∙ each_placed_all (spent_slot n) (spent_keeps_rating n) [] arose.came refl;
        arrivals =
            came_spent n arose.came past arose.arrivals ∙ ap (map rates) (sym (after_more [] past (was_spent n)));
      }

  pub arises_take : {R : _} (l m : OrderedList Slot R) (n given : ℕ) → distinct (errands (held l)) ≡ true → ErrandTaken l n given m →
      GoesOn (Arises worth units) (held l) (was_taken n ∷ []) (held m)
  arises_take l m n given once done past arose =
      record {
        came = filter_map (taken_slot n) arose.came;
        by_rank =
            done.slots ∙ without_is_taken n (held l) once ∙ ap (filter_map (taken_slot n)) arose.by_rank
            ∙ each_placed_all (taken_slot n) (taken_keeps_rating n) [] arose.came refl;
        arrivals = came_taken n arose.came past arose.arrivals ∙ ap (map rates) (sym (after_more [] past (was_taken n)));
      }
