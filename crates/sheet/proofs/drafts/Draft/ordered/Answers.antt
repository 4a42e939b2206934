use Rattle.std.proofs.Common.{◌++◌}
use Rattle.std.proofs.lemmas.Result.{err_from_is_err_and}
use Rattle.forms.specs.Lines.{line_of}
use Rattle.sheet.specs.Orders.{sheet_faults, so_far}
use Rattle.forms.specs.Sayings.{forms_faults, letters_faults, says}
use Rattle.sheet.proofs.Judgements.{judged_before}
use Rattle.sheet.proofs.Lined.{in_order_with_room, no_room, out_of_order}
use Rattle.sheet.proofs.drafts.Draft.ordered.Goals as goal

pub returns-in_err-said : goal.returns-in_err-said
returns-in_err-said c =
    let l = line_of c.args.line in
    let p = err_from_is_err_and c.from_residual.result c.from_residual.ensures.1 in
    rw (p.1, p.2)
    (judged_before (says l) (says l) (letters_faults l ++ forms_faults l) (sheet_faults (so_far c.args.self.now) l) _ c.in_err-said.ensures)

pub returns-then-not-in_order : goal.returns-then-not-in_order
returns-then-not-in_order c =
    out_of_order (so_far c.args.self.now) (line_of c.args.line) c.in_ok-said.said c.in_ok-said.ensures c.if-not-in_order.ensures

pub returns-then-not-has_room : goal.returns-then-not-has_room
returns-then-not-has_room c =
    no_room (so_far c.args.self.now) (line_of c.args.line) c.in_ok-said.said c.in_ok-said.ensures
    c.if-not-in_order.ensures c.if-not-has_room.ensures

pub returns : goal.returns
returns c =
    in_order_with_room (so_far c.args.self.now) (line_of c.args.line) c.in_ok-said.said c.in_ok-said.ensures
    c.if-not-in_order.ensures c.if-not-has_room.ensures
