use Rattle.std.proofs.Common.{rules, tests}
use Rattle.std.proofs.lemmas.Iterator.{YieldsList-from_slice}
use Rattle.std.proofs.lemmas.Iterator.Search.{all_from_yields_List}
use Rattle.forms.specs.Forms.{digit}
use Rattle.forms.proofs.Numbered.{number_by_digits}
use Rattle.forms.proofs.numbers.is_number.Goals as goal

pub returns-then-not-is_empty : goal.returns-then-not-is_empty
returns-then-not-is_empty c =
    let item = c.args.item.now in
    number_by_digits item c.all.result c.if-not-is_empty.ensures
    (all_from_yields_List digit c.all.new.self _ c.all.result c.all.ensures.ran (YieldsList-from_slice item cc)
    (λ x b q k. search (rules, tests)))
