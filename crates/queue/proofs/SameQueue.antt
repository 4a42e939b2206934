-- A queue is its list and the slots past its places: whatever else it keeps are facts, of which there is one proof at most.
use Rattle.std.proofs.Common.{◌≡◌, true, [], Ok, Err, Result}
use mathlib.Core.HLevel.{is_prop→PathP}
use denote.Struct.Props.{props}
use Rattle.model.specs.Queues.{distinct}
use Rattle.model.specs.Histories.{by_put}
use Rattle.model.specs.declared.errands.Errand.{Errand}
use Rattle.model.specs.declared.refusals.Refusal.{Refusal}
use Rattle.list.specs.Held.{held, Inserts}
use Rattle.list.specs.declared.ordered.OrderedList.{OrderedList}
use Rattle.queue.specs.Lists.{errands}
use Rattle.queue.specs.Orders.{Arose}
use Rattle.queue.specs.Ranks.{ranks}
use Rattle.queue.specs.declared.slots.Slot.{Slot}
use Rattle.queue.specs.declared.errand_queue.ErrandQueue.{ErrandQueue}

pub same_queue : {X : Type 0} {g : _} (q r : ErrandQueue X g) → r.list ≡ q.list → r.beyond ≡ q.beyond → r.rule ≡ q.rule → r ≡ q
same_queue {g = g} q r list beyond rule =
    λ i. record {
      list = list i;
      beyond = beyond i;
      rule = rule i;
      once = is_prop→PathP (λ j. distinct (errands (held (list j))) ≡ true) (λ j. hlevel props) r.once q.once i;
      arose = is_prop→PathP (λ j. Arose g.worth g.units (held (list j))) (λ j. hlevel props) r.arose q.arose i;
    }

-- A list that refuses an entry stays, and where a put adds nothing its list has refused one.
pub refused_put : {R : _} (l m : OrderedList Slot R) (s : Slot) (e : Errand) (r : Result (Unit {0}) Refusal)
    → by_put e r ≡ [] → Inserts ranks l s r m → m ≡ l
refused_put l m s e (Ok x) nothing done = cc
refused_put l m s e (Err why) nothing (full, code, same) = same
