use Rattle.std.proofs.Common.{◌+◌, ◌*◌, get_or, arith}
use Rattle.workload.proofs.Bounds.{NextJob, bounds_at, next_at, no_stream, quiet_more}
use Rattle.workload.proofs.demands.Demand.quiet_until.Goals as goal

pub jobs-requires : goal.jobs-requires
jobs-requires c = (bounds_at c.args.self.now.streams.now c.loop-stream.stream-index c.args.self.now.bounded c.loop-stream-test.true).apart

-- The next job of the stream that the loop has come to.
next : (c : goal.After-jobs) → NextJob (get_or c.args.self.now.streams.now c.loop-stream.stream-index no_stream) c.args.ticks
    ((get_or c.args.self.now.streams.now c.loop-stream.stream-index no_stream).first
    + c.jobs.result * (get_or c.args.self.now.streams.now c.loop-stream.stream-index no_stream).separation)
next c =
    next_at c.args.self.now.streams.now c.loop-stream.stream-index c.loop-stream-test.true c.args.self.now.bounded c.args.ticks
    c.jobs.result c.jobs.ensures

pub overflow_mul-jobs : goal.overflow_mul-jobs
overflow_mul-jobs c = omega (arith, (next c).near)

pub overflow_add-stream : goal.overflow_add-stream
overflow_add-stream c = omega (arith, (next c).near)

pub loop-stream-preserved : goal.loop-stream-preserved
loop-stream-preserved c =
    let (low, high, quiet) = c.loop-stream.invariant in (
      omega (arith, (next c.before).ahead),
      omega arith,
      rw c.min-until.ensures
          (quiet_more c.args.self.now.streams.now c.loop-stream.stream-index c.loop-stream-test.true c.args.ticks c.loop-stream.until _
          low quiet (next c.before)),
    )
