-- Refusals as lists of numbers, which definitions and contracts compare: the empty list where nothing is refused.
use Rattle.std.specs.Prelude.{ℕ, List, [], ◌∷◌, Ok, Err, Result}
use Rattle.model.specs.declared.refusals.Refusal.{Refusal}
use Rattle.model.specs.declared.refusals.Refusal.TheVariants.{NoSuchRow, DutyLimits, TableFull, Unschedulable, TooSoon, RowIdle, ClockEnded, ErrandLimits, AlreadyWaiting, NoPlace, NotWaiting}

-- The code of a refusal: its number, and behind the number of an unschedulable table the row.
abbrev pub refusal_code : Refusal → List ℕ
refusal_code NoSuchRow = 1 ∷ []
refusal_code DutyLimits = 2 ∷ []
refusal_code TableFull = 3 ∷ []
refusal_code (Unschedulable row) = 4 ∷ row ∷ []
refusal_code TooSoon = 5 ∷ []
refusal_code RowIdle = 6 ∷ []
refusal_code ClockEnded = 7 ∷ []
refusal_code ErrandLimits = 8 ∷ []
refusal_code AlreadyWaiting = 9 ∷ []
refusal_code NoPlace = 10 ∷ []
refusal_code NotWaiting = 11 ∷ []

-- What refused a call: nothing where it was accepted.
abbrev pub refusal : {X : Type 0} → Result X Refusal → List ℕ
refusal (Ok x) = []
refusal (Err e) = refusal_code e
