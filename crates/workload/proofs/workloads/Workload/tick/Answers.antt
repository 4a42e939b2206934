use Rattle.std.proofs.Common.{◌≤◌, arith}
use Rattle.model.proofs.Ticks.{spare_tick_keeps}
use Rattle.model.specs.Machine.{slack_of}
use Rattle.workload.proofs.RowCalls.{keeps_in}
use Rattle.workload.specs.Workloads.{work_in}
use Rattle.workload.proofs.workloads.Workload.tick.Goals as goal

pub invariant_of-self : goal.invariant_of-self
invariant_of-self c =
    let w = c.args.self.now in
    let some : 1 ≤ slack_of (work_in w) = omega (arith, c.slack-slack.ensures) in
    record { keeps = (spare_tick_keeps (work_in w) (keeps_in w) some).work_kept; unused = w.unused }
