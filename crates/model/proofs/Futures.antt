-- Lawful futures from kept work never miss, so that a tick spared with slack left can hurt nobody.
use Rattle.std.proofs.Common.{◌≤◌, [], ◌∷◌, ⊎_elim}
use Rattle.std.proofs.lemmas.Bool.{both_ways, or_cases}
use Rattle.model.specs.Futures.{release, done, tick, overdue, misses, Safe}
use Rattle.model.specs.Kept.{Keeps}
use Rattle.model.specs.Machine.{Work, after_call, duty_tick, later, slack_of}
use Rattle.model.specs.declared.rows.RowCall.TheVariants.{Release, Done}
use Rattle.model.proofs.Kept.{kept_not_overdue}
use Rattle.model.proofs.RowCalls.{call_keeps}
use Rattle.model.proofs.Ticks.{duty_tick_keeps, spare_tick_keeps}

-- No lawful future from kept work misses.
pub kept_safe : (w : Work) → Keeps w → Safe w
kept_safe w keeps [] lawful missed = both_ways (overdue w.clock w.rows) (kept_not_overdue w keeps.work_kept) missed
kept_safe w keeps (release i ∷ moves) (accepted, lawful) missed =
    ⊎_elim
    (both_ways (overdue w.clock w.rows) (kept_not_overdue w keeps.work_kept))
    (kept_safe (after_call w i Release) (call_keeps w i Release keeps accepted) moves lawful)
    (or_cases (overdue w.clock w.rows) (misses (after_call w i Release) moves) missed)
kept_safe w keeps (done i ∷ moves) (accepted, lawful) missed =
    ⊎_elim
    (both_ways (overdue w.clock w.rows) (kept_not_overdue w keeps.work_kept))
    (kept_safe (after_call w i Done) (call_keeps w i Done keeps accepted) moves lawful)
    (or_cases (overdue w.clock w.rows) (misses (after_call w i Done) moves) missed)
kept_safe w keeps (tick ∷ moves) lawful missed =
    ⊎_elim
    (both_ways (overdue w.clock w.rows) (kept_not_overdue w keeps.work_kept))
    (kept_safe (later (duty_tick w)) (duty_tick_keeps w keeps) moves lawful)
    (or_cases (overdue w.clock w.rows) (misses (later (duty_tick w)) moves) missed)

-- Where the table's slack is at least 1, a tick may be spared.
pub slack_safe : (w : Work) → Keeps w → 1 ≤ slack_of w → Safe (later w)
slack_safe w keeps slack = kept_safe (later w) (spare_tick_keeps w keeps slack)
