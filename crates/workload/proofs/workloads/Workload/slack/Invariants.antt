use Rattle.std.proofs.Common.{◌≡◌, length}
use Rattle.workload.proofs.Minimum.{least_of}
use Rattle.workload.proofs.RowSlacks.{first_streams, slacks}
use Rattle.workload.proofs.workloads.Workload.slack.Given as goal

-- The streams of the rows so far, and the least of their slacks.
abbrev pub invariant-loop-duty : goal.invariant-loop-duty
invariant-loop-duty l =
    (l.streams.items ≡ first_streams l.self (length l.yielded))
    × (l.least ≡ least_of (slacks l.self) (length l.yielded))
