use Rattle.std.proofs.Common.{◌≡◌, length}
use Rattle.forms.specs.Items.{items_left, numbers}
use Rattle.forms.proofs.Numbered.{Ahead}
use Rattle.forms.proofs.numbers.numbers.Given as goal

-- The values so far stand before those to come.
abbrev pub invariant-loop-number : goal.invariant-loop-number
invariant-loop-number g l =
    (length l.number-items ≡ g.row.N) × Ahead g.row.N l.number-index l.number-items (items_left l.items) (numbers g.row.N (items_left l.initial.items))
