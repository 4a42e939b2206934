-- Sheets apart from their text, which say where their at-lines stand in it.
use Rattle.std.specs.Prelude.{ℕ, List, map, Ok, Err, Result}
use Rattle.model.specs.declared.duties.Duty.{Duty}
use Rattle.table.specs.Settings.{table_of}
use Rattle.forms.specs.Faults.{Fault}
use Rattle.forms.specs.declared.sayings.QueueName.{QueueName}
use Rattle.sheet.specs.Ats.{in_text, span}
use Rattle.sheet.specs.Sheets.{Set, sheet_of}
use Rattle.sheet.specs.declared.ats.AtSpan.{AtSpan}
use Rattle.sheet.specs.declared.owned.OwnedSheet.{OwnedSheet}

-- What a sheet sets, with where its at-lines stand in place of their bytes.
pub record OwnedSet : Type 0 where
  pub table : List Duty
  pub queue : QueueName
  pub ats : List AtSpan
  pub ticks : ℕ

abbrev pub owned_set : OwnedSheet → OwnedSet
owned_set s = record { table = table_of s.setting; queue = s.queue; ats = s.ats.items; ticks = s.ticks }

-- What a sheet sets, apart from its text; and the sheet of a text again.
abbrev pub into_owned : Set → OwnedSet
into_owned s = record { table = s.table; queue = s.queue; ats = map span s.ats; ticks = s.ticks }

abbrev pub set_in : List ℕ → OwnedSet → Set
set_in text s = record { table = s.table; queue = s.queue; ats = map (in_text text) s.ats; ticks = s.ticks }

-- The sheet that a text is, apart from it, or its fault.
abbrev pub owned_sheet_of : List ℕ → Result OwnedSet Fault
owned_sheet_of text = elim (sheet_of text) [ Ok s ↦ Ok (into_owned s) | Err f ↦ Err f ]

-- What reading gave, as a sheet apart from its text or a fault; and with the at-lines that a text has where they stand.
abbrev pub owned_outcome : {E : Type 0} → (E → Fault) → Result OwnedSheet E → Result OwnedSet Fault
owned_outcome report (Ok s) = Ok (owned_set s)
owned_outcome report (Err e) = Err (report e)

abbrev pub outcome_in : {E : Type 0} → List ℕ → (E → Fault) → Result OwnedSheet E → Result Set Fault
outcome_in text report (Ok s) = Ok (set_in text (owned_set s))
outcome_in text report (Err e) = Err (report e)
