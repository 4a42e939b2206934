use Rattle.sheet.proofs.Ruled.{by_rules}
use Rattle.sheet.proofs.sheets.read_by_rules.Goals as goal

pub returns : goal.returns
returns c = by_rules
