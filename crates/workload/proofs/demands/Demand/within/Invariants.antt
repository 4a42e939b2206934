use Rattle.std.proofs.Common.{◌≡◌, ◌+◌, drop}
use Rattle.workload.specs.Streams.{all_ask}
use Rattle.workload.proofs.demands.Demand.within.Given as goal

-- The streams so far and those to come make the sum.
abbrev pub invariant-loop-stream : goal.invariant-loop-stream
invariant-loop-stream l = l.sum + all_ask (drop l.stream-index l.self.streams.now) l.ticks ≡ all_ask l.self.streams.now l.ticks
