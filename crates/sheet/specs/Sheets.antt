-- Which sheet a text is, or which fault it has.
use Rattle.std.specs.Prelude.{ℕ, ◌+◌, Bool, true, false, cond, List, [], ◌∷◌, length, map, Some, None, Ok, Err, Option, Result, nat_le, nat_lt}
use Rattle.model.specs.declared.duties.Duty.{Duty}
use Rattle.table.specs.Settings.{table_of}
use Rattle.forms.specs.Faults.{Fault, fault, judged, unless}
use Rattle.forms.specs.Lines.{first_position, lines}
use Rattle.sheet.specs.Ats.{AtLine, at_of}
use Rattle.sheet.specs.Orders.{SoFar, lines_judged, nothing_read}
use Rattle.sheet.specs.declared.sheets.Sheet.{Sheet}
use Rattle.sheet.specs.declared.drafts.Stage.{Stage}
use Rattle.sheet.specs.declared.drafts.Stage.TheVariants.{Over}
use Rattle.forms.specs.declared.faults.Layer.TheVariants.{Sheet as SheetLayer}
use Rattle.forms.specs.declared.faults.Position.{Position}
use Rattle.forms.specs.declared.sayings.QueueName.{QueueName}

-- What a sheet sets: a table, a queue, at-lines in the order of their lines, and a number of ticks.
pub record Set : Type 0 where
  pub table : List Duty
  pub queue : QueueName
  pub ats : List AtLine
  pub ticks : ℕ

abbrev pub set_by : Sheet → Set
set_by s = record { table = table_of s.setting; queue = s.queue; ats = map at_of s.ats.items; ticks = s.ticks }

-- What lines have set, as a sheet.
abbrev pub set_of : SoFar → Set
set_of s = record { table = s.table; queue = s.queue; ats = s.ats; ticks = s.ticks }

-- The end line was reached.
abbrev pub over : Stage → Bool
over Over = true
over stage = false

-- The first at-line that is not before the end.
abbrev pub late : ℕ → List AtLine → Option Fault
late ticks [] = None
late ticks (a ∷ later) =
    cond (nat_lt a.clock ticks) (late ticks later) (Some (fault 16 SheetLayer a.position))

-- A sheet whose lines have no fault: its end line must be there, and then no at-line may be late.
abbrev pub finished : Position → SoFar → Result Set Fault
finished missing s =
    judged (unless (over s.stage) (fault 16 SheetLayer missing) ∷ late s.ticks s.ats ∷ []) (set_of s)

-- One past the last line, at the text's length.
abbrev pub missing_line : List ℕ → Position
missing_line text = record { line = 1 + length (lines first_position text); byte = length text }

-- A sheet whose lines were judged.
abbrev pub of_lines : Position → Result SoFar Fault → Result Set Fault
of_lines missing (Ok s) = finished missing s
of_lines missing (Err f) = Err f

-- 17, where a text is too long.
abbrev pub too_long : List ℕ → Option Fault
too_long text = unless (nat_le (length text) 32768) (fault 17 SheetLayer first_position)

-- The sheet that a text is, or its fault.
abbrev pub sheet_of : List ℕ → Result Set Fault
sheet_of text =
    elim (too_long text) [
      | Some f ↦ Err f
      | None ↦ of_lines (missing_line text) (lines_judged nothing_read (lines first_position text))
    ]

-- What is set by lines that were found complete, or the fault for which they were not.
abbrev pub completed : {X E : Type 0} → (E → Fault) → Result X E → SoFar → Result Set Fault
completed report (Ok x) s = Ok (set_of s)
completed report (Err e) s = Err (report e)

-- What reading gave, as a sheet or a fault.
abbrev pub outcome : {E : Type 0} → (E → Fault) → Result Sheet E → Result Set Fault
outcome report (Ok s) = Ok (set_by s)
outcome report (Err e) = Err (report e)
