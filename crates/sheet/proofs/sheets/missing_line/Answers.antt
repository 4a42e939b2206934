use Rattle.std.proofs.Common.{◌+◌, length, ap, ◌∙◌, inl, arith}
use Rattle.std.proofs.lemmas.Iterator.Consumers.{count_from_yields_List}
use Rattle.forms.specs.Lines.{first_position}
use Rattle.sheet.proofs.Counted.{hands_out_lines, lines_within}
use Rattle.sheet.proofs.sheets.missing_line.Goals as goal

pub count-requires-clause-fits : goal.count-requires-clause-fits
count-requires-clause-fits c = inl (omega (arith, lines_within first_position c.args.text.now, ap length c.new.ensures.lines))

pub overflow_add-result : goal.overflow_add-result
overflow_add-result c = omega (arith, lines_within first_position c.args.text.now, ap length c.new.ensures.lines, c.count.ensures.bound)

pub returns : goal.returns
returns c =
    let counted = count_from_yields_List c.new.result c.count.result c.count.ensures.ran (hands_out_lines c.new.result) in
    ap (λ n. record { line = 1 + n; byte = length c.args.text.now }) (counted ∙ ap length c.new.ensures.lines)
