use Rattle.std.proofs.Common.{◌≡◌, ◌≤◌, drop}
use Rattle.forms.specs.Forms.{closed}
use Rattle.forms.proofs.shapes.bracketed.Given as goal

-- The brackets so far are open, and the rest decides.
abbrev pub invariant-loop-i : goal.invariant-loop-i
invariant-loop-i l = (1 ≤ l.depth) × (l.depth ≤ 16) × (closed l.depth (drop l.i l.rest) ≡ closed 1 l.rest)
