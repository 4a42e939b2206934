use Rattle.std.proofs.Common.{◌≡◌, ◌+◌, ◌*◌, drop, arith, ◌∙◌}
use Rattle.model.proofs.Admitted.{limits_at}
use Rattle.model.specs.Table.{busy}
use Rattle.table.proofs.Limits.{busy_at_most, busy_more}
use Rattle.table.proofs.analysis.Analysis.busy.Goals as goal

-- The sum with one row more, and what remains to be added.
more : (c : goal.After-from-in-loop-duty)
    → c.loop-duty.sum
    + c.from.result * c.from-in-loop-duty.result
    + busy (drop (c.loop-duty.duty-index + 1) c.args.self.now.duties.now) c.args.ticks
    ≡ busy c.args.self.now.duties.now c.args.ticks
more c =
    let s = c.args.self.now in
    let l = limits_at s.duties.now s.within c.loop-duty.duty-index c.loop-duty-test.true in
    busy_more s.duties.now c.args.ticks c.loop-duty.duty-index c.loop-duty.sum _ _
    (record {
      inside = c.loop-duty-test.true;
      apart = omega arith;
      costs = c.from.ensures;
      counts = c.from-in-loop-duty.ensures ∙ c.div_ceil.ensures;
    })
    c.loop-duty.invariant

pub div_ceil-requires : goal.div_ceil-requires
div_ceil-requires c =
    let s = c.args.self.now in
    let l = limits_at s.duties.now s.within c.loop-duty.duty-index c.loop-duty-test.true in
    omega arith

pub overflow_add-sum : goal.overflow_add-sum
overflow_add-sum c =
    let s = c.args.self.now in
    omega (arith, more c, busy_at_most s.duties.now c.args.ticks s.within (omega arith))

pub loop-duty-preserved : goal.loop-duty-preserved
loop-duty-preserved c = more c
