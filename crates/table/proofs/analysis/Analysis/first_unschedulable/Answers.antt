use Rattle.std.proofs.Common.{ap, ◌∙◌, arith, rules}
use Rattle.model.specs.Searches.{least}
use Rattle.model.specs.Table.{is_unschedulable}
use Rattle.table.proofs.Least.{least_in_range}
use Rattle.table.proofs.analysis.Analysis.first_unschedulable.Goals as goal

pub returns : goal.returns
returns c =
    let unschedulable_in = is_unschedulable c.args.self.now.duties.now in
    least_in_range _ _ unschedulable_in (record { keeps = λ x r q k. search rules; answers = λ x r k. search rules }) _ _ c.find.ensures.runs
    ∙ ap (least unschedulable_in 0) (omega arith)
