use Rattle.std.proofs.Common.{refl}
use Rattle.model.specs.Table.{ceil}
use Rattle.model.proofs.laws.worked_examples.Goals as goal

pub returns : goal.returns
unfolding ceil
returns c =
    record {
      responses = (refl, refl, refl);
      taken = refl;
      too_tight = refl;
      made_unschedulable = refl;
      slack_released = (refl, refl, refl, refl);
      slack_idle = (refl, refl, refl, refl);
      slack_whole = (refl, refl);
      slack_figure = refl;
      slack_no_rows = refl;
    }
