-- What is reported of a fault: a number, a line, a byte and a layer; and which of several faults counts.
use Rattle.std.specs.Prelude.{ℕ, Bool, true, false, List, [], ◌∷◌, Some, None, Ok, Err, Option, Result}
use Rattle.forms.specs.declared.faults.FormsFault.{FormsFault}
use Rattle.forms.specs.declared.faults.FormsFault.TheVariants.{Letters as OfLetters, NotAForm, WrongItems, TooLarge}
use Rattle.forms.specs.declared.faults.LettersFault.{LettersFault}
use Rattle.forms.specs.declared.faults.Position.{Position}
use Rattle.forms.specs.declared.faults.Layer.{Layer}
use Rattle.forms.specs.declared.faults.Layer.TheVariants.{Letters, Forms}
use Rattle.forms.specs.declared.faults.Report.{Report}

-- In specs a fault is what is reported of it.
abbrev pub Fault : Type 0
Fault = Report

-- A fault with no row.
abbrev pub fault : ℕ → Layer → Position → Fault
fault number layer position = record { number = number; line = position.line; byte = position.byte; layer = layer; row = None }

-- The report of each fault of a layer.
abbrev pub letters_report : LettersFault → Fault
letters_report f = fault 12 Letters f.0

abbrev pub forms_report : FormsFault → Fault
forms_report (OfLetters f) = letters_report f
forms_report (NotAForm position) = fault 13 Forms position
forms_report (WrongItems position) = fault 14 Forms position
forms_report (TooLarge position) = fault 15 Forms position

-- A value, or the report of a fault.
abbrev pub reported : {X E : Type 0} → (E → Fault) → Result X E → Result X Fault
reported report (Ok x) = Ok x
reported report (Err e) = Err (report e)

-- The report of a fault, if there is one.
abbrev pub failing : {X E : Type 0} → (E → Fault) → Result X E → Option Fault
failing report (Ok x) = None
failing report (Err e) = Some (report e)

-- A fault where a test fails.
abbrev pub unless : Bool → Fault → Option Fault
unless true f = None
unless false f = Some f

-- The first fault of a list counts; where there is none, the value stands.
abbrev pub judged : {X : Type 0} → List (Option Fault) → X → Result X Fault
judged [] x = Ok x
judged (None ∷ faults) x = judged faults x
judged (Some f ∷ faults) x = Err f
