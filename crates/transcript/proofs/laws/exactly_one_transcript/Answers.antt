use Rattle.transcript.proofs.Existence.{exactly_one_transcript}
use Rattle.transcript.proofs.laws.exactly_one_transcript.Goals as goal

pub returns : goal.returns
returns c = exactly_one_transcript
