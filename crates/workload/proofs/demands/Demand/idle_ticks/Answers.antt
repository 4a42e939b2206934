use Rattle.std.proofs.Common.{sym, arith}
use Rattle.workload.specs.Streams.{all_ask}
use Rattle.workload.proofs.IdleTicks.{busy_until, idle_until}
use Rattle.workload.proofs.Bounds.{all_ask_monotone}
use Rattle.workload.proofs.demands.Demand.idle_ticks.Goals as goal

pub busy-preserved : goal.busy-preserved
busy-preserved c =
    let ss = c.args.self.now.streams.now in (
      omega arith,
      sym (busy_until (all_ask ss) (all_ask_monotone ss) c.busy.at c.window.idle c.busy.invariant.1 c.min-at.result
          (omega arith)
          (omega (arith, c.within.ensures.sum))),
      omega arith,
      omega arith,
    )

pub window-preserved : goal.window-preserved
window-preserved c =
    let ss = c.args.self.now.streams.now in (
      omega arith,
      sym (idle_until (all_ask ss) (all_ask_monotone ss) c.busy.at c.window.idle c.busy.invariant.1 c.quiet_until-until.result
          (omega (arith, c.quiet_until-until.ensures.low))
          c.quiet_until-until.ensures.quiet
          (omega (arith, c.within.ensures.sum))),
      omega arith,
    )
