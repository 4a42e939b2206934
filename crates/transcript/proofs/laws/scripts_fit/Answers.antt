use Rattle.transcript.proofs.Sizes.{scripts_fit}
use Rattle.transcript.proofs.laws.scripts_fit.Goals as goal

pub returns : goal.returns
returns c = scripts_fit
