-- Idle ticks: how many ticks of a window no row up to i needs, if each is worked off as soon as it can be.
use Rattle.std.specs.Prelude.{◌≡◌, ℕ, zero, suc, ◌+◌, ◌≤◌, cond, List, nat_le}
use Rattle.model.specs.Demand.{demand_at}
use Rattle.model.specs.Slack.{row_slack, window}
use Rattle.model.specs.declared.duties.Duty.{Duty}
use Rattle.model.specs.declared.rows.Row.{Row}

-- The idle ticks among the first w, by the demand within each number of ticks: tick w is idle exactly if the
-- demand within w + 1, plus the idle ticks so far, is at most w.
abbrev pub idle_ticks : (ℕ → ℕ) → ℕ → ℕ
idle_ticks demand zero = 0
idle_ticks demand (suc w) = idle_ticks demand w + cond (nat_le (demand (suc w) + idle_ticks demand w) w) 1 0

-- The demand of row i within w ticks.
abbrev pub within : ℕ → ℕ → List Duty → List Row → ℕ → ℕ → ℕ
within from clock table rows i w = demand_at from table rows i (clock + w)

-- The slack of a row is the number of idle ticks in its window.
abbrev pub SlackIsIdleTicks : Type 0
SlackIsIdleTicks =
    (from clock : ℕ) (table : List Duty) (rows : List Row) (i : ℕ)
    → row_slack from clock table rows i
    ≡ idle_ticks (within from clock table rows i) (window from clock table rows i)

-- Where some number of ticks within the window covers the demand, so that the slack is not below 0, it is the
-- greatest of w − demand: some w has it to spare, and none has more.
pub record GreatestSpare (from clock : ℕ) (table : List Duty) (rows : List Row) (i slack : ℕ) : Type 0 where
  pub spared : (w : ℕ) × (w ≤ window from clock table rows i) × (within from clock table rows i w + slack ≡ w)
  pub no_more : (w : ℕ) → w ≤ window from clock table rows i → w ≤ within from clock table rows i w + slack

abbrev pub SlackIsGreatest : Type 0
SlackIsGreatest =
    (from clock : ℕ) (table : List Duty) (rows : List Row) (i : ℕ)
    → ((w : ℕ) × (w ≤ window from clock table rows i) × (within from clock table rows i w ≤ w))
    → GreatestSpare from clock table rows i (row_slack from clock table rows i)
