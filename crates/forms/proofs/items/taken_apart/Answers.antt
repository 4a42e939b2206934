use Rattle.forms.proofs.Apart.{taken_apart}
use Rattle.forms.proofs.items.taken_apart.Goals as goal

pub returns : goal.returns
returns c = taken_apart
