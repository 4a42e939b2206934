use Rattle.std.proofs.Common.{◌≡◌, ◌∙◌, rules}
use Rattle.std.specs.List.{fold}
use Rattle.std.proofs.iter.runs.Made.{chains}
use Rattle.forms.proofs.Numbered.{value_by_fold, with_digit}
use Rattle.forms.proofs.numbers.value.Goals as goal

pub returns : goal.returns
returns c =
    let folded : c.fold.result ≡ fold with_digit 0 c.args.item.now = search (rules, chains) in
    folded ∙ value_by_fold 0 c.args.item.now
