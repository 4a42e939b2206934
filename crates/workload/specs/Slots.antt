-- The sixteen slots of rows. The first are in use, as many as the table has duties.
use Rattle.std.specs.Prelude.{ℕ, List, [], ◌∷◌, length, take}
use Rattle.model.specs.Machine.{Work, row_after, row_refusal}
use Rattle.model.specs.declared.duties.Duty.{Duty}
use Rattle.model.specs.declared.rows.Row.{Row}
use Rattle.model.specs.declared.rows.RowCall.{RowCall}

-- The work that the slots in use hold.
abbrev pub work_of : List Duty → ℕ → List Row → Work
work_of table clock slots = record { table = table; clock = clock; rows = take (length table) slots }

-- A row after a call: as before where it is refused.
abbrev pub row_called : Duty → ℕ → Row → RowCall → Row
row_called duty clock row call = elim (row_refusal clock row call) [ [] ↦ row_after duty clock row call | ◌∷◌ n ns ↦ row ]
