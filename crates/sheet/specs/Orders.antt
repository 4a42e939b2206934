-- The order of lines, and what each line does to the sheet as far as it is read. The faults of the layers sheet and
-- table.
use Rattle.std.specs.Prelude.{ℕ, Bool, true, false, List, [], ◌∷◌, ◌++◌, length, map, Some, None, Ok, Err, Option, Result, nat_lt}
use Rattle.model.specs.Table.{add_refusal, after_add}
use Rattle.model.specs.declared.duties.Duty.{Duty}
use Rattle.table.specs.Settings.{table_of}
use Rattle.forms.specs.Faults.{Fault, fault, judged, unless}
use Rattle.sheet.specs.Ats.{AtLine, at_of}
use Rattle.sheet.specs.Reports.{table_fault}
use Rattle.forms.specs.Lines.{Line}
use Rattle.forms.specs.Sayings.{forms_faults, letters_faults, says}
use Rattle.sheet.specs.declared.drafts.Draft.{Draft}
use Rattle.sheet.specs.declared.drafts.Stage.{Stage}
use Rattle.sheet.specs.declared.drafts.Stage.TheVariants.{Start, Duties, Ats, Over}
use Rattle.forms.specs.declared.faults.Layer.TheVariants.{Sheet as SheetLayer}
use Rattle.forms.specs.declared.faults.Position.{Position}
use Rattle.forms.specs.declared.sayings.QueueName.{QueueName}
use Rattle.forms.specs.declared.sayings.QueueName.TheVariants.{First}
use Rattle.forms.specs.declared.sayings.Said.{Said}
use Rattle.forms.specs.declared.sayings.Said.TheVariants.{Sheet, Duty as AddDuty, Queue, At, End, Remark}

-- A sheet as far as it is read: how far its lines have come, and what they have set.
pub record SoFar : Type 0 where
  pub stage : Stage
  pub table : List Duty
  pub queue : QueueName
  pub ats : List AtLine
  pub ticks : ℕ

abbrev pub nothing_read : SoFar
nothing_read = record { stage = Start; table = []; queue = First; ats = []; ticks = 0 }

abbrev pub so_far : Draft → SoFar
so_far d =
    record { stage = d.stage; table = table_of d.sheet.setting; queue = d.sheet.queue; ats = map at_of d.sheet.ats.items; ticks = d.sheet.ticks }

-- Which lines may come: first the sheet line; then duties and a queue line; then at-lines and an end line; and remarks
-- anywhere behind the first line.
abbrev pub in_order : Stage → Said → Bool
in_order Start Sheet = true
in_order Start said = false
in_order stage Remark = true
in_order Duties (AddDuty place d) = true
in_order Duties (Queue name) = true
in_order Ats (At clock) = true
in_order Ats (End ticks) = true
in_order stage said = false

-- There is room for what the line says: at most 256 at-lines.
abbrev pub has_room : List AtLine → Said → Bool
has_room ats (At clock) = nat_lt (length ats) 256
has_room ats said = true

-- What the table says to a duty: its refusal, or nothing.
abbrev pub refused_at : Position → List ℕ → Option Fault
refused_at p [] = None
refused_at p (number ∷ values) = Some (table_fault p (number ∷ values))

abbrev pub table_says : List Duty → Position → Said → Option Fault
table_says table p (AddDuty place d) = refused_at p (add_refusal table place d)
table_says table p said = None

-- The faults of a line where it stands in the sheet.
abbrev pub fault_16 : SoFar → Line → Option Fault
fault_16 s l = unless (in_order s.stage (says l)) (fault 16 SheetLayer l.position)

abbrev pub fault_17 : SoFar → Line → Option Fault
fault_17 s l = unless (has_room s.ats (says l)) (fault 17 SheetLayer l.position)

abbrev pub fault_of_table : SoFar → Line → Option Fault
fault_of_table s l = table_says s.table l.position (says l)

-- Each layer's faults, in the order in which they count.
abbrev pub sheet_faults : SoFar → Line → List (Option Fault)
sheet_faults s l = fault_16 s l ∷ fault_17 s l ∷ []

abbrev pub table_faults : SoFar → Line → List (Option Fault)
table_faults s l = fault_of_table s l ∷ []

-- The at-line that a line is, with its clock.
abbrev pub at_line : ℕ → Line → AtLine
at_line clock l = record { clock = clock; position = l.position; bytes = l.bytes }

-- What a line adds.
abbrev pub with_said : SoFar → Line → Said → SoFar
with_said s l Sheet = record { stage = Duties; table = s.table; queue = s.queue; ats = s.ats; ticks = s.ticks }
with_said s l (AddDuty place d) =
    record { stage = s.stage; table = after_add s.table place d; queue = s.queue; ats = s.ats; ticks = s.ticks }
with_said s l (Queue name) = record { stage = Ats; table = s.table; queue = name; ats = s.ats; ticks = s.ticks }
with_said s l (At clock) =
    record { stage = s.stage; table = s.table; queue = s.queue; ats = s.ats ++ (at_line clock l ∷ []); ticks = s.ticks }
with_said s l (End ticks) = record { stage = Over; table = s.table; queue = s.queue; ats = s.ats; ticks = ticks }
with_said s l Remark = s

-- What a line says that may come where it stands, or the first fault of its letters, its form or its order.
abbrev pub order_judged : SoFar → Line → Result Said Fault
order_judged s l = judged (letters_faults l ++ forms_faults l ++ sheet_faults s l) (says l)

-- What the table makes of what such a line says; and of a duty.
abbrev pub said_judged : SoFar → Line → Said → Result SoFar Fault
said_judged s l said = judged (table_says s.table l.position said ∷ []) (with_said s l said)

abbrev pub duty_judged : SoFar → Position → ℕ → Duty → Result SoFar Fault
duty_judged s at place d =
    judged (refused_at at (add_refusal s.table place d) ∷ [])
    (record { stage = s.stage; table = after_add s.table place d; queue = s.queue; ats = s.ats; ticks = s.ticks })

-- A line where it stands in the sheet: the first layer in which it is faulty counts, and in that layer the smallest number.
abbrev pub line_judged : SoFar → Line → Result SoFar Fault
line_judged s l =
    judged (letters_faults l ++ forms_faults l ++ sheet_faults s l ++ table_faults s l) (with_said s l (says l))

-- The lines from first to last: the first faulty one counts.
abbrev pub lines_judged : SoFar → List Line → Result SoFar Fault
lines_judged s [] = Ok s
lines_judged s (l ∷ ls) = elim (line_judged s l) [ Ok t ↦ lines_judged t ls | Err f ↦ Err f ]

-- What a line that was read has set, or its fault.
abbrev pub left_with : {X E : Type 0} → (E → Fault) → Result X E → SoFar → Result SoFar Fault
left_with report (Ok x) s = Ok s
left_with report (Err e) s = Err (report e)
