use Rattle.std.proofs.Common.{leb, rules, tests}
use Rattle.std.proofs.lemmas.Iterator.{YieldsList-from_slice}
use Rattle.std.proofs.lemmas.Iterator.Search.{find_from_yields_List}
use Rattle.sheet.specs.declared.ats.At.{At}
use Rattle.sheet.proofs.Punctual.{late_found}
use Rattle.sheet.proofs.sheets.on_time.Goals as goal

pub returns-in-None : goal.returns-in-None
returns-in-None c =
    let found =
    find_from_yields_List (λ (a : At). leb c.args.ticks a.clock) _ _ c.find.result c.find.ensures.ran
    (YieldsList-from_slice c.args.ats.now cc) (λ x b q k. search (rules, tests)) in
    rw c.in-None.is at (late_found c.args.ticks c.args.ats.now c.find.result found)

pub returns-in-Some : goal.returns-in-Some
returns-in-Some c =
    let found =
    find_from_yields_List (λ (a : At). leb c.args.ticks a.clock) _ _ c.find.result c.find.ensures.ran
    (YieldsList-from_slice c.args.ats.now cc) (λ x b q k. search (rules, tests)) in
    rw c.in-Some.is at (late_found c.args.ticks c.args.ats.now c.find.result found)
