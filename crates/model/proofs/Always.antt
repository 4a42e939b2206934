-- The kept invariant at all times.
use Rattle.model.specs.Always.{KeptAlways}
use Rattle.model.proofs.Accounts.{run_sound}
use Rattle.model.proofs.Futures.{slack_safe}
use Rattle.model.proofs.Kept.{kept_not_overdue, kept_slack, kept_window}
use Rattle.model.proofs.Overload.{safe_slack}
use Rattle.model.proofs.Spare.{fresh_keeps}
use Rattle.model.proofs.Steps.{step_keeps, run_keeps, run_table, run_clock}

pub kept_always : KeptAlways
kept_always =
    record {
      at_the_start = fresh_keeps;
      through_every_step = step_keeps;
      in_every_run = run_keeps;
      queue_stays_sound = run_sound;
      table_stays = run_table;
      clock_counts_ticks = run_clock;
      no_slack_below_0 = λ w keeps. kept_slack w keeps.work_kept;
      none_overdue = λ w keeps. kept_not_overdue w keeps.work_kept;
      windows_short = kept_window;
      slack_spares = slack_safe;
      safe_has_slack = safe_slack;
    }
