-- The run, step by step, and the future are worked out in proofs/MachineExamples.antt.
use Rattle.model.proofs.MachineExamples.{machine_examples}
use Rattle.model.proofs.laws.machine_examples.Goals as goal

pub returns : goal.returns
returns c = machine_examples
