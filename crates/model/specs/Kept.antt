-- What a running machine always keeps: each row's slack by the early reckoning is not below 0.
use Rattle.std.specs.Prelude.{◌≡◌, ℕ, zero, suc, ◌+◌, ◌≤◌, Bool, true, false, ◌&&◌, List, [], ◌∷◌, length, is_some, ◌==◌, nat_le}
use Rattle.model.specs.Demand.{demand_at}
use Rattle.model.specs.Machine.{Work}
use Rattle.model.specs.Searches.{least}
use Rattle.model.specs.Slack.{window}
use Rattle.model.specs.Table.{admitted}
use Rattle.model.specs.declared.duties.Duty.{Duty}
use Rattle.model.specs.declared.rows.Row.{Row}
use Rattle.model.specs.declared.rows.Row.TheVariants.{Idle, Ready}

-- A row's own numbers: a job has 1 to its cost units left, its deadline and the next release are as far apart
-- as deadline and separation, and no release lies more than a separation ahead.
abbrev pub row_kept : ℕ → Duty → Row → Bool
row_kept clock duty (Idle e) = nat_le e (clock + duty.separation)
row_kept clock duty (Ready c d e) =
    nat_le 1 c && nat_le c duty.cost && d + duty.separation == e + duty.deadline && nat_le e (clock + duty.separation)

-- Each row's numbers are kept, and there is a state for each row.
abbrev pub rows_kept : ℕ → List Duty → List Row → Bool
rows_kept clock [] [] = true
rows_kept clock (duty ∷ table) (row ∷ rows) = row_kept clock duty row && rows_kept clock table rows
rows_kept clock table rows = false

-- `ticks` from the clock on cover the demand of row i, by the early reckoning, and r ticks more.
abbrev pub covers : Work → ℕ → ℕ → ℕ → Bool
covers w i r ticks = nat_le (demand_at w.clock w.table w.rows i (w.clock + ticks) + r) ticks

-- Row i has r ticks to spare: some number of ticks, at least 1, within its window covers its demand and r more.
-- With r = 0: its early slack is not below 0.
abbrev pub has_spare : Work → ℕ → ℕ → Bool
has_spare w i r = is_some (least (covers w i r) 1 (window w.clock w.clock w.table w.rows i))

-- The first n rows have each r ticks to spare.
abbrev pub all_spare : Work → ℕ → ℕ → Bool
all_spare w r zero = true
all_spare w r (suc n) = all_spare w r n && has_spare w n r

-- The numbers of all rows are kept, and each row has r ticks to spare.
abbrev pub kept_with : ℕ → Work → Bool
kept_with r w = rows_kept w.clock w.table w.rows && all_spare w r (length w.table)

-- What a running machine keeps.
abbrev pub kept : Work → Bool
kept = kept_with 0

-- Such work over an admitted table: what a running machine can hold.
pub record Keeps (w : Work) : Type 0 where
  pub table_admitted : admitted w.table ≡ true
  pub work_kept : kept w ≡ true

-- Row i's slack is not below 0: some number of ticks within its window covers its demand.
abbrev pub SlackNotBelow0 : Work → ℕ → Type 0
SlackNotBelow0 w i =
    (ticks : ℕ)
    × (ticks ≤ window (w.clock + 1) w.clock w.table w.rows i)
    × (demand_at (w.clock + 1) w.table w.rows i (w.clock + ticks) ≤ ticks)
