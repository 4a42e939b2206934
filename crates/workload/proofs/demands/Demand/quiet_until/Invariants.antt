use Rattle.std.proofs.Common.{◌≡◌, ◌≤◌, take}
use Rattle.workload.specs.Streams.{all_ask}
use Rattle.workload.proofs.demands.Demand.quiet_until.Given as goal

-- The streams so far ask for the same until then.
abbrev pub invariant-loop-stream : goal.invariant-loop-stream
invariant-loop-stream l =
    (l.ticks ≤ l.until)
    × (l.until ≤ l.end)
    × (all_ask (take l.stream-index l.self.streams.now) l.until ≡ all_ask (take l.stream-index l.self.streams.now) l.ticks)
