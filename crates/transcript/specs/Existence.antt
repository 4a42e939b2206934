-- That there is a run of every script, and a transcript of every text.
use Rattle.std.specs.Prelude.{◌≡◌, ℕ, List, []}
use Rattle.model.specs.Machine.{fresh}
use Rattle.model.specs.declared.calls.Call.{Call}
use Rattle.model.specs.declared.duties.Duty.{Duty}
use Rattle.queue.specs.Scripts.{RunOf}
use Rattle.forms.specs.declared.sayings.QueueName.{QueueName}
use Rattle.transcript.specs.Transcripts.{Printed, choice_of, empty_queue}

-- Every script has a run, whichever of its calls are refused: over every table, from the fresh state over an empty queue with room for
-- so many errands, there is one in which each tick that an errand has goes by the choice of the queue of this name.
abbrev pub EveryScriptRuns : Type 0
EveryScriptRuns =
    (table : List Duty) (queue : QueueName) (places : ℕ) (script : List Call)
    → RunOf (choice_of queue) [] (fresh table (empty_queue places)) script

-- It is printed of the text, and whatever is printed of the text is the same.
pub record PrintedOnly (text out : List ℕ) : Type 0 where
  pub printed : Printed text out
  pub only : (other : List ℕ) → Printed text other → other ≡ out

-- Every text has a transcript, and only one.
abbrev pub ExactlyOneTranscript : Type 0
ExactlyOneTranscript = (text : List ℕ) → (out : List ℕ) × PrintedOnly text out
