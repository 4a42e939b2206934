-- What is reported of each fault of the layers sheet and table.
use Rattle.std.specs.Prelude.{ℕ, List, ◌∷◌, Some, None, Option, slice_index}
use Rattle.model.specs.Refusals.{refusal_code}
use Rattle.forms.specs.Faults.{Fault, fault, forms_report}
use Rattle.forms.specs.declared.faults.Layer.TheVariants.{Sheet, Table}
use Rattle.forms.specs.declared.faults.Position.{Position}
use Rattle.sheet.specs.declared.faults.SheetFault.{SheetFault}
use Rattle.sheet.specs.declared.faults.SheetFault.TheVariants.{Forms as OfForms, OutOfOrder, TooLong}
use Rattle.sheet.specs.declared.faults.TableFault.{TableFault}
use Rattle.sheet.specs.declared.faults.TableFault.TheVariants.{Sheet as OfSheet, Refused}

-- The row that stands in the code of a refusal behind its number.
abbrev pub named_row : List ℕ → Option ℕ
named_row (number ∷ row ∷ more) = Some row
named_row code = None

-- The fault of a duty at a position that the table refused with this code.
abbrev pub table_fault : Position → List ℕ → Fault
table_fault position code =
    record { number = slice_index code 0; line = position.line; byte = position.byte; layer = Table; row = named_row code }

-- The report of each fault of a layer.
abbrev pub sheet_report : SheetFault → Fault
sheet_report (OfForms f) = forms_report f
sheet_report (OutOfOrder position) = fault 16 Sheet position
sheet_report (TooLong position) = fault 17 Sheet position

abbrev pub table_report : TableFault → Fault
table_report (OfSheet f) = sheet_report f
table_report (Refused position why) = table_fault position (refusal_code why)
