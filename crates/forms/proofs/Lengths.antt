-- How many items a form can have, and how many bytes the lines of a text.
use Rattle.std.proofs.Common.{ℕ, ◌+◌, ◌-◌, ◌≤◌, cond, List, [], ◌∷◌, length, take, ap, arith, length-append, length-drop, length-take}
use Rattle.std.specs.List.{flat_map}
use Rattle.forms.specs.Items.{inside, items}
use Rattle.forms.specs.Laws.{spaced, with_end}
use Rattle.forms.specs.Lines.{Line}
use Rattle.forms.proofs.Apart.{taken_apart}

-- A space stands between any two items.
spaced_long : (is : List (List ℕ)) → length is ≤ length (spaced is) + 1
spaced_long [] = omega arith
spaced_long (i ∷ []) = omega arith
spaced_long (i ∷ j ∷ is) = omega (arith, length-append i (32 ∷ spaced (j ∷ is)), spaced_long (j ∷ is))

pub items_within : (bs : List ℕ) → length (items 0 (inside bs)) ≤ length bs + 1
items_within bs =
    let apart = ap length (taken_apart.by_items 0 (inside bs)) in
    omega (arith, spaced_long (items 0 (inside bs)), apart, length-drop 1 (take (length bs - 1) bs), length-take (length bs - 1) bs)

-- The bytes of a line and those of the lines behind it are no more than the bytes of all these lines.
pub line_within : (l : Line) (ls : List Line) → length l.bytes + length (flat_map with_end ls) ≤ length (flat_map with_end (l ∷ ls))
line_within l ls =
    omega (arith, length-append (with_end l) (flat_map with_end ls), length-append l.bytes (cond l.ended (10 ∷ []) []))
