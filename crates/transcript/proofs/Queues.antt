-- A queue whose list is empty means one in which nothing waits, so what is promised of a run over the one is promised over the other.
use Rattle.std.proofs.Common.{◌≡◌, ℕ, List, [], ap, ◌∙◌, subst}
use Rattle.list.specs.Held.{capacity, held}
use Rattle.list.specs.declared.ordered.OrderedList.{OrderedList}
use Rattle.model.specs.Machine.{State, fresh}
use Rattle.model.specs.Promise.{Promise}
use Rattle.model.specs.Queues.{Meaning}
use Rattle.model.specs.Runs.{Trace}
use Rattle.model.specs.declared.duties.Duty.{Duty}
use Rattle.queue.specs.Lists.{errands, first_number, list_meaning}
use Rattle.queue.specs.declared.slots.Slot.{Slot}
use Rattle.transcript.specs.Transcripts.{empty_queue}

empty_list_means : {R : _} (l : OrderedList Slot R) (places : ℕ) → held l ≡ [] → capacity l ≡ places
    → list_meaning l ≡ empty_queue places
empty_list_means l places nothing room =
    ap (λ (slots : List Slot). record { waiting = errands slots; named = first_number (errands slots); places = capacity l }) nothing
    ∙ ap empty_queue room

pub promise_from_empty : {R : _} (l : OrderedList Slot R) (places : ℕ) (table : List Duty) (trace : Trace) (end : State)
    → held l ≡ []
    → capacity l ≡ places
    → Promise (fresh table (list_meaning l)) trace end
    → (end : State) × Promise (fresh table (empty_queue places)) trace end
promise_from_empty l places table trace end nothing room promise =
    (end, subst (λ (m : Meaning). Promise (fresh table m) trace end) (empty_list_means l places nothing room) promise)
