use Rattle.transcript.proofs.Settled.{one_transcript}
use Rattle.transcript.proofs.laws.one_transcript.Goals as goal

pub returns : goal.returns
returns c = one_transcript
