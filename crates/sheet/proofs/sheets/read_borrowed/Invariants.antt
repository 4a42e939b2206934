use Rattle.std.proofs.Common.{◌≡◌}
use Rattle.forms.specs.Lines.{first_position, lines, lines_left}
use Rattle.sheet.specs.Orders.{lines_judged, nothing_read, so_far}
use Rattle.sheet.proofs.sheets.read_borrowed.Given as goal

-- The lines so far have no fault, so those to come decide.
abbrev pub invariant-loop-line : goal.invariant-loop-line
invariant-loop-line l =
    lines_judged (so_far l.draft) (lines_left l.line-iterator) ≡ lines_judged nothing_read (lines first_position l.text)
