-- What is printed of a text: its fault, or the rendering of a run of the sheet that it is.
use Rattle.std.specs.Prelude.{◌≡◌, ℕ, List, [], None, Ok, Err, Result}
use Rattle.model.specs.Histories.{Choice, Chosen}
use Rattle.model.specs.Machine.{State, fresh}
use Rattle.model.specs.Promise.{Promise}
use Rattle.model.specs.Queues.{Meaning}
use Rattle.model.specs.Runs.{Trace, calls_in}
use Rattle.queue.specs.Arrivals.{best_worth, earliest}
use Rattle.sheet.specs.Sheets.{Set, sheet_of}
use Rattle.forms.specs.Faults.{Fault}
use Rattle.forms.specs.declared.sayings.QueueName.{QueueName}
use Rattle.forms.specs.declared.sayings.QueueName.TheVariants.{First, Worth}
use Rattle.transcript.specs.Lines.{fault_line}
use Rattle.transcript.specs.Renderings.{rendered}
use Rattle.transcript.specs.Scripts.{script_of}

-- A queue with room for so many errands, in which nothing waits, so that it names none.
abbrev pub empty_queue : ℕ → Meaning
empty_queue places = record { waiting = []; named = None; places = places }

-- The choice of a queue by its name: of the errands that wait, `first` serves the one that was put earliest, and `worth` the one
-- with the most worth for the units that it was put with, on a tie the one that was put earlier.
abbrev pub choice_of : QueueName → Choice
choice_of First = earliest
choice_of Worth = best_worth

-- A text is printed of a sheet: the calls of the sheet's script were run over its table, from the fresh state over an empty queue with
-- room for 64 errands, and all that is promised of a run holds; each tick that an errand had went to the one that the sheet's queue
-- chooses after the calls and answers before it; and the text is the run's rendering.
pub record Transcript (s : Set) (out : List ℕ) : Type 0 where
  pub trace : Trace
  pub end : State
  pub promise : Promise (fresh s.table (empty_queue 64)) trace end
  pub chosen : Chosen (choice_of s.queue) [] trace
  pub calls : calls_in trace ≡ script_of s.ats s.ticks
  pub shows : out ≡ rendered s.table trace end

-- What is printed of a text by what it is read as: of a sheet its transcript, and of any other text the line of its fault.
abbrev pub PrintedOf : Result Set Fault → List ℕ → Type 0
PrintedOf (Ok s) out = Transcript s out
PrintedOf (Err f) out = out ≡ fault_line f

-- What is printed of a text.
abbrev pub Printed : List ℕ → List ℕ → Type 0
Printed text out = PrintedOf (sheet_of text) out

-- Whatever is printed of a text is the same: there is at most one.
abbrev pub OneTranscript : Type 0
OneTranscript = (text out out' : List ℕ) → Printed text out → Printed text out' → out ≡ out'
