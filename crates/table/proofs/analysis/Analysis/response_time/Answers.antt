use Rattle.std.proofs.Common.{ap, ◌∙◌, arith, rules}
use Rattle.model.specs.Searches.{least}
use Rattle.model.specs.Table.{duty_at, suffices}
use Rattle.table.proofs.Least.{least_in_inclusive}
use Rattle.table.proofs.analysis.Analysis.response_time.Goals as goal

pub returns : goal.returns
returns c =
    let passes = suffices c.args.self.now.duties.now c.args.row in
    let deadline = (duty_at c.args.self.now.duties.now c.args.row).deadline in
    least_in_inclusive _ _ passes (record { keeps = λ x r q k. search rules; answers = λ x r k. search rules }) _ _ 1 deadline
    c.find.ensures.runs (search rules) (search rules) (search rules)
    ∙ ap (least passes 1) (omega arith)
