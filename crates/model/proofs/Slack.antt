-- The slack of a row is the number of its idle ticks, and the greatest of what any number of ticks has to spare.
use Rattle.std.proofs.Common.{◌≡◌, ℕ, zero, suc, ◌+◌, ◌-◌, ◌<◌, ◌≤◌, List, [], ◌∷◌, take, ap, ◌∙◌, ⊎_elim, arith}
use Rattle.std.proofs.lemmas.Bool.{cases_lt, cond-false, cond-true, le-leb, lt-leb}
use Rattle.model.proofs.Demand.{jobs_le}
use Rattle.model.proofs.Extremes.{greatest_above, greatest_taken}
use Rattle.model.specs.Demand.{demand, need, next_release}
use Rattle.model.specs.Idle.{SlackIsGreatest, SlackIsIdleTicks, idle_ticks, within}
use Rattle.model.specs.Searches.{greatest}
use Rattle.model.specs.Slack.{spare, window}
use Rattle.model.specs.declared.duties.Duty.{Duty}
use Rattle.model.specs.declared.rows.Row.{Row}

-- A demand that does not fall.
abbrev pub Monotone : (ℕ → ℕ) → Type 0
Monotone f = (v w : ℕ) → v ≤ w → f v ≤ f w

module _ (f : ℕ → ℕ) (monotone : Monotone f) where
  -- Tick w is idle, or it is not.
  pub idle_more : (w : ℕ) → f (suc w) + idle_ticks f w ≤ w → idle_ticks f (suc w) ≡ idle_ticks f w + 1
  idle_more w le = ap (λ n. idle_ticks f w + n) (cond-true _ _ _ (le-leb _ _ le))

  pub idle_same : (w : ℕ) → w < f (suc w) + idle_ticks f w → idle_ticks f (suc w) ≡ idle_ticks f w
  idle_same w lt = ap (λ n. idle_ticks f w + n) (cond-false _ _ _ (lt-leb _ _ lt)) ∙ omega arith

  -- The idle ticks are the most that any number of ticks so far has to spare.
  pub idle_is_greatest : (w : ℕ) → greatest (λ v. v - f v) w ≡ idle_ticks f w
  idle_is_greatest zero = omega arith
  idle_is_greatest (suc w) =
      let so_far = idle_is_greatest w in
      let last = greatest_above (λ v. v - f v) w w (omega arith) in
      let step = monotone w (suc w) (omega arith) in
      ⊎_elim
      (λ lt. omega (arith, idle_same w lt))
      (λ le. omega (arith, idle_more w le))
      (cases_lt w (f (suc w) + idle_ticks f w))

need_monotone : (from : ℕ) (duty : Duty) (row : Row) (v w : ℕ) → v ≤ w → need from duty row v ≤ need from duty row w
need_monotone from duty row v w le =
    omega (arith, jobs_le duty (v - next_release from row) (w - next_release from row) (omega arith))

pub demand_monotone : (from : ℕ) (table : List Duty) (rows : List Row) (v w : ℕ) → v ≤ w → demand from table rows v ≤ demand from table rows w
demand_monotone from [] rows v w le = omega arith
demand_monotone from (duty ∷ table) [] v w le = omega arith
demand_monotone from (duty ∷ table) (row ∷ rows) v w le =
    omega (arith, need_monotone from duty row v w le, demand_monotone from table rows v w le)

pub slack_is_idle_ticks : SlackIsIdleTicks
slack_is_idle_ticks from clock table rows i =
    idle_is_greatest (within from clock table rows i)
    (λ v w le. demand_monotone from (take (suc i) table) rows (clock + v) (clock + w) (omega arith))
    (window from clock table rows i)

pub slack_is_greatest : SlackIsGreatest
slack_is_greatest from clock table rows i (w, inside, covers) =
    let f = spare from clock table rows i in
    let n = window from clock table rows i in
    let (v, within-v, is) = greatest_taken f n in
    record {
      spared =
          ⊎_elim
          (λ short. (w, inside, omega (arith, is, greatest_above f n w inside)))
          (λ enough. (v, within-v, omega (arith, is)))
          (cases_lt v (within from clock table rows i v));
      no_more = λ u within-u. omega (arith, greatest_above f n u within-u);
    }
