-- What holds of a running machine at all times. It keeps its invariant, from the start through every step, so no row's
-- slack is below 0, no job is overdue, no window is longer than 8,192 ticks, and the slack is at least 1 exactly where
-- a tick can be spared. The clock counts the ticks that were accepted, and the table stays.
use Rattle.std.specs.Prelude.{◌≡◌, ℕ, ◌+◌, ◌<◌, ◌≤◌, true, false, List, length}
use Rattle.model.specs.Futures.{overdue, Safe}
use Rattle.model.specs.Kept.{Keeps, SlackNotBelow0}
use Rattle.model.specs.Machine.{Work, State, Step, fresh_work, later, slack_of}
use Rattle.model.specs.Queues.{Sound}
use Rattle.model.specs.Runs.{Run, Trace, ticks}
use Rattle.model.specs.Slack.{window}
use Rattle.model.specs.Table.{admitted}
use Rattle.model.specs.declared.calls.Answer.{Answer}
use Rattle.model.specs.declared.calls.Call.{Call}
use Rattle.model.specs.declared.duties.Duty.{Duty}

pub record KeptAlways : Type 0 where
  pub at_the_start : (table : List Duty) → admitted table ≡ true → Keeps (fresh_work table)
  pub through_every_step :
      (s : State) (call : Call) (answer : Answer) (s' : State)
      → Step s call answer s' → Keeps s.work → Keeps s'.work
  pub in_every_run : (s : State) (trace : Trace) (end : State) → Run s trace end → Keeps s.work → Keeps end.work
  pub queue_stays_sound :
      (s : State) (trace : Trace) (end : State) → Run s trace end → Sound s.queue → Sound end.queue
  pub table_stays : (s : State) (trace : Trace) (end : State) → Run s trace end → end.work.table ≡ s.work.table
  pub clock_counts_ticks :
      (s : State) (trace : Trace) (end : State) → Run s trace end → end.work.clock ≡ s.work.clock + ticks trace
  pub no_slack_below_0 : (w : Work) → Keeps w → (i : ℕ) → i < length w.table → SlackNotBelow0 w i
  pub none_overdue : (w : Work) → Keeps w → overdue w.clock w.rows ≡ false
  pub windows_short :
      (w : Work) → Keeps w → (i : ℕ) → i < length w.table → window (w.clock + 1) w.clock w.table w.rows i ≤ 8192
  pub slack_spares : (w : Work) → Keeps w → 1 ≤ slack_of w → Safe (later w)
  pub safe_has_slack : (w : Work) → Keeps w → Safe (later w) → 1 ≤ slack_of w
