use Rattle.forms.proofs.Valued.{numbers_by_value}
use Rattle.forms.proofs.numbers.numbers_by_value.Goals as goal

pub returns : goal.returns
returns c = numbers_by_value
