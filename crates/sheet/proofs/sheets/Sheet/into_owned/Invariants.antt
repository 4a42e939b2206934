use Rattle.std.proofs.Common.{◌≡◌, map, take}
use Rattle.sheet.specs.Ats.{at_of, span}
use Rattle.sheet.proofs.sheets.Sheet.into_owned.Given as goal

-- The at-lines so far are where they stand.
abbrev pub invariant-loop-at : goal.invariant-loop-at
invariant-loop-at l = l.ats.items ≡ map span (map at_of (take l.at-index l.lines))
