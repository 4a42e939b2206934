use Rattle.std.proofs.Common.{Ok, sym, ap, ◌∙◌}
use Rattle.sheet.specs.Owned.{OwnedSet, set_in}
use Rattle.sheet.specs.Sheets.{set_by}
use Rattle.sheet.proofs.Spanned.{set_there}
use Rattle.sheet.proofs.owned.read.Goals as goal

pub returns-clause-text : goal.returns-clause-text
returns-clause-text c =
    let text = c.args.text.now in
    let read = c.in_ok-read_borrowed in
    ap (λ (s : OwnedSet). Ok (set_in text s)) c.into_owned.ensures
    ∙ ap Ok (set_there text (set_by read.field-0) (sym read.ensures)) ∙ read.ensures
