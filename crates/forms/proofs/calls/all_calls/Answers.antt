use Rattle.std.proofs.Common.{is_some, ◌∙◌, rules, tests, refl}
use Rattle.std.proofs.lemmas.Iterator.Consumers.{YieldsList-from_first}
use Rattle.std.proofs.lemmas.Iterator.Search.{all_from_yields_List}
use Rattle.forms.specs.Items.{item_of, parts_left}
use Rattle.forms.specs.Sayings.{call}
use Rattle.forms.proofs.Itemized.{all_called}
use Rattle.forms.proofs.calls.all_calls.Goals as goal

pub returns : goal.returns
returns c =
    all_from_yields_List (λ i. is_some (call i.bytes)) c.all.new.self _ c.all.result c.all.ensures.ran
    (YieldsList-from_first item_of parts_left (parts_left c.args.items) refl) (λ x b q k. search (rules, tests))
    ∙ all_called (parts_left c.args.items)
