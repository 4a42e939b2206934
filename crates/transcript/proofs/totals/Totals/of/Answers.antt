use Rattle.std.proofs.Common.{◌<◌, ◌≤◌, cond, length, arith}
use Rattle.model.specs.Runs.{given_back, of_tick, was_accepted}
use Rattle.model.specs.Totals.{any_errand_had, asked}
use Rattle.transcript.proofs.Renderings.{total_all, total_more}
use Rattle.transcript.proofs.totals.Totals.of.Goals as goal

pub loop-entry-preserved : goal.loop-entry-preserved
loop-entry-preserved c =
    let script = c.args.script.now in
    let i = c.loop-entry.entry-index in
    let short : i < length script = omega arith in
    let (accepted, served, withdrawn, few-accepted, few-served, few-withdrawn) = c.loop-entry.invariant in (
      omega (arith, accepted, total_more script i (λ call answer. cond (was_accepted answer) (asked call) 0) short, c.accepted_by.ensures, c.from-accepted.ensures),
      omega (arith, served, total_more script i (λ call answer. of_tick any_errand_had answer) short, c.served_by.ensures, c.from-served.ensures),
      omega (arith, withdrawn, total_more script i (λ call answer. given_back answer) short, c.withdrawn_by.ensures, c.from-withdrawn.ensures),
      omega (arith, few-accepted, c.accepted_by.type_inv, c.from-accepted.ensures),
      omega (arith, few-served, c.served_by.type_inv, c.from-served.ensures),
      omega (arith, few-withdrawn, c.withdrawn_by.type_inv, c.from-withdrawn.ensures),
    )

pub returns : goal.returns
returns c =
    let script = c.args.script.now in
    let i = c.loop-entry.entry-index in
    let long : length script ≤ i = omega arith in
    let (accepted, served, withdrawn, few-accepted, few-served, few-withdrawn) = c.loop-entry.invariant in
    record {
      accepted = omega (arith, accepted, total_all script i (λ call answer. cond (was_accepted answer) (asked call) 0) long);
      served = omega (arith, served, total_all script i (λ call answer. of_tick any_errand_had answer) long);
      withdrawn = omega (arith, withdrawn, total_all script i (λ call answer. given_back answer) long);
    }
