use Rattle.queue.proofs.Best.{best_worth_is_best}
use Rattle.queue.proofs.rules.best_worth_is_best.Goals as goal

pub returns : goal.returns
returns c = best_worth_is_best
