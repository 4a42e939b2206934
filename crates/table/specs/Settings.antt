-- What a setting holds.
use Rattle.std.specs.Prelude.{◌≡◌, ℕ, ◌≤◌, List, [], ◌∷◌, length, Some, Ok, Err, Result}
use Rattle.model.specs.Refusals.{refusal_code}
use Rattle.model.specs.Table.{response}
use Rattle.model.specs.declared.duties.Duty.{Duty}
use Rattle.model.specs.declared.refusals.Refusal.{Refusal}
use Rattle.table.specs.declared.settings.Setting.{Setting}

-- The table of a setting: its duties, row 0 first.
abbrev pub table_of : Setting → List Duty
table_of s = s.duties.items

-- The response time of a row: the defined one, or 1 where there is no such row.
abbrev pub Responds : List Duty → ℕ → Result ℕ Refusal → Type 0
Responds table row (Ok w) = response table row ≡ Some w
Responds table row (Err why) = (length table ≤ row) × (refusal_code why ≡ 1 ∷ [])
