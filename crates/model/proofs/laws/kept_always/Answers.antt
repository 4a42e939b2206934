-- The invariant from the start through every step, put together in proofs/Always.antt.
use Rattle.model.proofs.Always.{kept_always}
use Rattle.model.proofs.laws.kept_always.Goals as goal

pub returns : goal.returns
returns c = kept_always
