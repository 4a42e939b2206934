-- The first at-line that comes too late.
use Rattle.std.proofs.Common.{◌≡◌, ℕ, Bool, true, false, cond, not, leb, ltb, List, [], ◌∷◌, map, Some, None, Option, refl, ap, ◌∙◌, arith}
use Rattle.std.specs.Borrow.{Bor}
use Rattle.std.specs.List.{find}
use Rattle.std.specs.Option.{option_map}
use Rattle.std.proofs.lemmas.Bool.Decides.{nat_tests}
use Rattle.forms.specs.Faults.{Fault, fault}
use Rattle.forms.specs.declared.faults.Layer.TheVariants.{Sheet}
use Rattle.sheet.specs.Ats.{at_of}
use Rattle.sheet.specs.Sheets.{late}
use Rattle.sheet.specs.declared.ats.At.{At}

abbrev late_at : At → Fault
late_at a = fault 16 Sheet a.part.position

step : (t u : Bool) (o : Option At) (x : Option Fault) (a : At) → t ≡ not u → option_map late_at o ≡ x
    → option_map late_at (cond t (Some a) o) ≡ cond u x (Some (late_at a))
step t true o x a e h = rw e h
step t false o x a e h = rw e refl

found : (ticks : ℕ) (ats : List At) → option_map late_at (find (λ (a : At). leb ticks a.clock) ats) ≡ late ticks (map at_of ats)
found ticks [] = refl
found ticks (a ∷ ats) =
    let opposite : leb ticks a.clock ≡ not (ltb a.clock ticks) = grind (arith, nat_tests) in
    step _ _ _ _ a opposite (found ticks ats)

-- The fault of the at-line that was found, if one was.
pub late_found : (ticks : ℕ) (ats : List At) (r : Option (Bor At))
    → option_map (λ x. x.now) r ≡ find (λ (a : At). leb ticks a.clock) ats
    → option_map (λ (x : Bor At). fault 16 Sheet x.now.part.position) r ≡ late ticks (map at_of ats)
late_found ticks ats None e = ap (option_map late_at) e ∙ found ticks ats
late_found ticks ats (Some a) e = ap (option_map late_at) e ∙ found ticks ats
