use Rattle.transcript.proofs.Sizes.{sheets_fit}
use Rattle.transcript.proofs.laws.sheets_fit.Goals as goal

pub returns : goal.returns
returns c = sheets_fit
