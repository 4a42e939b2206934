-- The accounts of each errand number, summed over the numbers in proofs/Totals.antt.
use Rattle.model.proofs.Totals.{totals_balance}
use Rattle.model.proofs.laws.totals_balance.Goals as goal

pub returns : goal.returns
returns c = totals_balance
