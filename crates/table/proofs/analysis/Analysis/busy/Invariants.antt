use Rattle.std.proofs.Common.{◌≡◌, ◌+◌, drop}
use Rattle.model.specs.Table.{busy}
use Rattle.table.proofs.analysis.Analysis.busy.Given as goal

-- The rows so far and the rows to come make the sum.
abbrev pub invariant-loop-duty : goal.invariant-loop-duty
invariant-loop-duty l = l.sum + busy (drop l.duty-index l.self.duties.now) l.ticks ≡ busy l.self.duties.now l.ticks
