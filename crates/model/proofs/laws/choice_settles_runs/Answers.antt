use Rattle.model.proofs.Settled.{choice_settles_runs}
use Rattle.model.proofs.laws.choice_settles_runs.Goals as goal

pub returns : goal.returns
returns c = choice_settles_runs
