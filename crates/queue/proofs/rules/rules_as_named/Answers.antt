use Rattle.queue.proofs.Earliest.{alike_by_arrival}
use Rattle.queue.proofs.rules.rules_as_named.Goals as goal

pub returns-clause-alike : goal.returns-clause-alike
returns-clause-alike c = alike_by_arrival
