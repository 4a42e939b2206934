use Rattle.model.proofs.Responses.{response_is_least}
use Rattle.model.proofs.laws.response_is_least.Goals as goal

pub returns : goal.returns
returns c = response_is_least
