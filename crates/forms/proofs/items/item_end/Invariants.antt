use Rattle.std.proofs.Common.{◌≡◌, ◌+◌, ◌≤◌, drop}
use Rattle.forms.specs.Items.{item_length}
use Rattle.forms.proofs.items.item_end.Given as goal

-- The item goes on to where it was found to end from the start.
abbrev pub invariant-loop-end : goal.invariant-loop-end
invariant-loop-end l = (l.depth ≤ l.end) × (l.end + item_length l.depth (drop l.end l.bytes) ≡ item_length 0 l.bytes)
