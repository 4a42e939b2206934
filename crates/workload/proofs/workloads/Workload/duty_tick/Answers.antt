use Rattle.std.proofs.Common.{◌≡◌, sym, ap, ◌∙◌, arith}
use Rattle.model.specs.Machine.{duty_tick, later}
use Rattle.workload.proofs.DutyTicks.{nobody_ran, ran_keeps, ready_few, row_ran}
use Rattle.workload.specs.Workloads.{work_in}
use Rattle.workload.proofs.workloads.Workload.duty_tick.Goals.{in-None, in-Some}
use Rattle.workload.proofs.workloads.Workload.duty_tick.Goals as goal

pub overflow_cast-row : goal.overflow_cast-row
overflow_cast-row c = omega (arith, ready_few c.args.self.now c.in-Some.row (sym c.first_ready.ensures ∙ c.in-Some.is))

pub invariant_of-self : goal.invariant_of-self
invariant_of-self c =
    let w = c.args.self.now in
    let ran : work_in c.match-first_ready.self ≡ duty_tick (work_in w) = elim c.match-first_ready.branch [
      | in-Some b ↦ rw b.self-is (row_ran w _ (sym c.first_ready.ensures ∙ b.in-Some.is) _ _ b.call.ensures.step)
      | in-None b ↦ rw b.self-is (nobody_ran w (sym c.first_ready.ensures ∙ b.in-None.is))
    ] in
    record { keeps = (ran_keeps w _ ran).work_kept; unused = c.match-first_ready.self.unused }

pub returns-clause-work : goal.returns-clause-work
returns-clause-work c =
    let w = c.args.self.now in
    let ran : work_in c.match-first_ready.self ≡ duty_tick (work_in w) = elim c.match-first_ready.branch [
      | in-Some b ↦ rw b.self-is (row_ran w _ (sym c.first_ready.ensures ∙ b.in-Some.is) _ _ b.call.ensures.step)
      | in-None b ↦ rw b.self-is (nobody_ran w (sym c.first_ready.ensures ∙ b.in-None.is))
    ] in
    ap later ran
