-- Slack: the most that the ticks of a row's window have to spare over the row's demand, and the least of that over
-- the rows of the table. As with demand, `from` is the first clock at which an idle row may still be released.
use Rattle.std.specs.Prelude.{ℕ, ◌+◌, ◌-◌, max, List, [], ◌∷◌, length}
use Rattle.model.specs.Demand.{demand_at, row_at}
use Rattle.model.specs.Searches.{greatest, lowest}
use Rattle.model.specs.Table.{duty_at}
use Rattle.model.specs.declared.duties.Duty.{Duty}
use Rattle.model.specs.declared.rows.Row.{Row}
use Rattle.model.specs.declared.rows.Row.TheVariants.{Idle, Ready}

-- The clock at which the row's window ends: the deadline of its job, or of the next that can come.
abbrev pub window_end : ℕ → Duty → Row → ℕ
window_end from duty (Idle e) = max e from + duty.deadline
window_end from duty (Ready c d e) = d

-- The ticks from the clock to the end of row i's window.
abbrev pub window : ℕ → ℕ → List Duty → List Row → ℕ → ℕ
window from clock table rows i = window_end from (duty_at table i) (row_at rows i) - clock

-- What w ticks have to spare for row i, 0 where they do not suffice.
abbrev pub spare : ℕ → ℕ → List Duty → List Row → ℕ → ℕ → ℕ
spare from clock table rows i w = w - demand_at from table rows i (clock + w)

-- The slack of row i: the greatest of w − demand for w from 0 to the end of its window. It is a number where
-- some w covers its demand, that is, where the slack is not below 0; see `has_spare` in Kept.
abbrev pub row_slack : ℕ → ℕ → List Duty → List Row → ℕ → ℕ
row_slack from clock table rows i = greatest (spare from clock table rows i) (window from clock table rows i)

-- The slack of the table: the least over its rows, 65,535 if there are none.
abbrev pub table_slack : ℕ → ℕ → List Duty → List Row → ℕ
table_slack from clock [] rows = 65535
table_slack from clock (duty ∷ table) rows = lowest (row_slack from clock (duty ∷ table) rows) (length table)
