-- What a run leaves open, and what settles it.
use Rattle.std.specs.Prelude.{◌≡◌}
use Rattle.model.specs.Histories.{Choice, Chosen, History}
use Rattle.model.specs.Machine.{State}
use Rattle.model.specs.Queues.{Sound}
use Rattle.model.specs.Runs.{Run, Trace, calls_in}

-- A queue's choice settles a run: of two runs of the same calls from the same state, in which each tick of an errand goes by the same
-- choice, every call has the same answer. So nothing but this choice is open in the machine.
abbrev pub ChoiceSettlesRuns : Type 0
ChoiceSettlesRuns =
    (start : State) (choice : Choice) (past : History) (trace trace' : Trace) (end end' : State)
    → Sound start.queue
    → Run start trace end
    → Run start trace' end'
    → Chosen choice past trace
    → Chosen choice past trace'
    → calls_in trace ≡ calls_in trace'
    → trace ≡ trace'
