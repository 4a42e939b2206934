use Rattle.transcript.proofs.Existence.{every_script_runs}
use Rattle.transcript.proofs.laws.every_script_runs.Goals as goal

pub returns : goal.returns
returns c = every_script_runs
