use Rattle.std.proofs.Common.{arith, length-take}
use Rattle.table.proofs.Limits.{within_take}
use Rattle.table.proofs.analysis.Analysis.suffices.Goals as goal

-- However many of the rows are taken, they are few and within their limits.
pub invariant_of-rows : goal.invariant_of-rows
invariant_of-rows c =
    record {
      within = within_take _ c.args.self.now.duties.now c.args.self.now.within;
      few = simp length-take (omega arith);
    }
