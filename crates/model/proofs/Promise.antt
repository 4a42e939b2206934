-- The run promise: deadlines, spare ticks and accounts of every run, together.
use Rattle.model.specs.Promise.{EveryRunKeepsThePromise}
use Rattle.model.proofs.Accounts.{accounts_kept}
use Rattle.model.proofs.Deadlines.{deadlines_kept}
use Rattle.model.proofs.SpareTicks.{ticks_spared}

pub every_run_keeps_the_promise : EveryRunKeepsThePromise
every_run_keeps_the_promise start trace end keeps sound run =
    record {
      follows = run;
      deadlines = deadlines_kept start trace end keeps run;
      spare_ticks = ticks_spared start trace end keeps;
      accounts = accounts_kept start trace end run sound;
    }
