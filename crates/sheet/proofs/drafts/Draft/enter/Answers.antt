use Rattle.std.proofs.Common.{◌++◌, sym, ◌∙◌}
use Rattle.std.proofs.lemmas.Result.{err_from_is_err_and}
use Rattle.forms.specs.Lines.{line_of}
use Rattle.sheet.specs.Orders.{sheet_faults, so_far, table_faults, with_said}
use Rattle.forms.specs.Sayings.{forms_faults, letters_faults, says}
use Rattle.sheet.proofs.Judgements.{judged_before}
use Rattle.sheet.proofs.Lined.{by_table, room_where_ordered}
use Rattle.sheet.proofs.drafts.Draft.enter.Goals as goal

pub returns-in_err-said : goal.returns-in_err-said
returns-in_err-said c =
    let l = line_of c.args.line in
    let s = so_far c.args.self.now in
    let p = err_from_is_err_and c.from_residual.result c.from_residual.ensures.1 in
    rw (p.1, p.2)
    (judged_before (says l) (with_said s l (says l)) (letters_faults l ++ forms_faults l ++ sheet_faults s l) (table_faults s l) _ c.in_err-said.ensures)

pub take-requires : goal.take-requires
take-requires c =
    let s = so_far c.args.self.now in
    room_where_ordered s (line_of c.args.line) c.in_ok-said.said c.in_ok-said.ensures

pub returns : goal.returns
returns c =
    let l = line_of c.args.line in
    let s = so_far c.args.self.now in
    c.take.ensures ∙ sym (by_table s l c.in_ok-said.said c.in_ok-said.ensures)
