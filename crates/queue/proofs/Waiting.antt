-- The errands that wait after a history, and after one event more.
use Rattle.std.proofs.Common.{◌≡◌, ℕ, List, [], ◌∷◌, ◌++◌, map, Some, None, Option, refl}
use Rattle.std.specs.List.{filter_map}
use Rattle.std.specs.Option.{option_map}
use Rattle.model.specs.Histories.{Event, History}
use Rattle.model.specs.Queues.{one_less}
use Rattle.model.specs.declared.errands.Errand.{Errand}
use Rattle.queue.specs.Arrivals.{Arrival, after, after_all, taken, spent}
use Rattle.queue.proofs.AtNumber.{map_at_number}
use Rattle.queue.proofs.Changed.{errand_at}

-- The errands that wait, in order of arrival.
abbrev pub waiting_of : List Arrival → List Errand
waiting_of = map (λ a. a.waits)

-- One event more.
pub after_more : (came : List Arrival) (past : History) (x : Event) → after_all came (past ++ x ∷ []) ≡ after (after_all came past) x
after_more came [] x = refl
after_more came (y ∷ past) x = after_more (after came y) past x

abbrev pub waits_as : Arrival → Errand → Arrival
waits_as a e = record { put = a.put; waits = e }

-- What arrived, with one unit less, or none where that was its last.
abbrev pub less_waits : Arrival → Option Arrival
less_waits a = option_map (waits_as a) (one_less a.waits)

-- The errand of a number taken out of what arrived is taken out of those that wait, and a unit spent on it there is spent on it here.
pub taken_waits : (n : ℕ) (came : List Arrival) →
    waiting_of (filter_map (taken n) came) ≡ filter_map (errand_at (λ _. None) n) (waiting_of came)
taken_waits n = map_at_number (λ (a : Arrival). a.waits) (λ (e : Errand). e.number) (λ _. None) (λ _. None) (λ _. refl) n

pub spent_waits : (n : ℕ) (came : List Arrival) →
    waiting_of (filter_map (spent n) came) ≡ filter_map (errand_at one_less n) (waiting_of came)
spent_waits n =
    map_at_number (λ (a : Arrival). a.waits) (λ (e : Errand). e.number) less_waits one_less (λ a. same a (one_less a.waits)) n
  where
    same : (a : Arrival) (o : Option Errand) → option_map (λ (b : Arrival). b.waits) (option_map (waits_as a) o) ≡ o
    same a None = refl
    same a (Some e) = refl
