use Rattle.std.proofs.Common.{◌≡◌, ◌+◌, ◌*◌, drop, get_or, arith}
use Rattle.workload.specs.Streams.{all_ask}
use Rattle.workload.proofs.Bounds.{all_ask_small, all_ask_more, no_stream, bounds_at}
use Rattle.workload.proofs.demands.Demand.within.Goals as goal

-- The sum with one stream more, and what remains to be added.
more : (c : goal.After-jobs)
    → let ss = c.args.self.now.streams.now in
    let stream = get_or ss c.loop-stream.stream-index no_stream in
    c.loop-stream.sum + (stream.left + stream.cost * c.jobs.result) + all_ask (drop (c.loop-stream.stream-index + 1) ss) c.args.ticks
    ≡ all_ask ss c.args.ticks
more c =
    all_ask_more c.args.self.now.streams.now c.loop-stream.stream-index c.loop-stream-test.true c.args.ticks c.loop-stream.sum
    c.jobs.result c.jobs.ensures c.loop-stream.invariant

pub jobs-requires : goal.jobs-requires
jobs-requires c = (bounds_at c.args.self.now.streams.now c.loop-stream.stream-index c.args.self.now.bounded c.loop-stream-test.true).apart

pub overflow_mul-sum : goal.overflow_mul-sum
overflow_mul-sum c =
    let d = c.args.self.now in
    omega (arith, more c, all_ask_small d.streams.now c.args.ticks d.bounded c.requires, d.few)

pub overflow_add-sum : goal.overflow_add-sum
overflow_add-sum c =
    let d = c.args.self.now in
    omega (arith, more c, all_ask_small d.streams.now c.args.ticks d.bounded c.requires, d.few)

pub overflow_add-sum-in-loop-stream : goal.overflow_add-sum-in-loop-stream
overflow_add-sum-in-loop-stream c =
    let d = c.args.self.now in
    omega (arith, more c, all_ask_small d.streams.now c.args.ticks d.bounded c.requires, d.few)

pub returns-clause-bound : goal.returns-clause-bound
returns-clause-bound c =
    let d = c.args.self.now in
    omega (arith, c.loop-stream.invariant, all_ask_small d.streams.now c.args.ticks d.bounded c.requires, d.few)
