use Rattle.std.proofs.Common.{length, ap, ◌∙◌, arith}
use Rattle.forms.specs.Items.{parts_of}
use Rattle.forms.proofs.Itemized.{items_cut}
use Rattle.forms.proofs.items.ItemsIterator.next.Goals as goal

pub returns : goal.returns
returns c =
    let split =
    ap parts_of c.in_ok-part.was
    ∙ items_cut c.in_ok-part.part c.item_end-end.result c.from-self.result c.item_end-end.ensures.value c.item_end-end.ensures.within
    c.from-self.ensures in
    record { steps = split; goes = record { on = λ _. (tt, tt, omega (arith, ap length split)); keeps = tt; rests = λ _. tt } }
