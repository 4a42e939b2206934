use Rattle.std.proofs.Common.{◌≡◌, ◌+◌, ◌-◌, ◌/◌, sym, ap, arith}
use native.Mathlib.Nat.{add-div_right}
use Rattle.model.proofs.Ceil.{ceil_none}
use Rattle.model.specs.Table.{ceil}
use Rattle.workload.proofs.streams.Stream.jobs.Goals as goal

pub returns-then-ticks-self : goal.returns-then-ticks-self
returns-then-ticks-self c = sym (ceil_none _ c.args.self.separation (omega arith))

pub returns : goal.returns
unfolding ceil
returns c =
    let s = c.args.self in
    let sum : c.args.ticks - s.first + (s.separation - 1) ≡ c.args.ticks - s.first - 1 + s.separation = omega arith in
    omega (arith, ap (λ n. n / s.separation) sum, add-div_right (c.args.ticks - s.first - 1) {k = s.separation} (omega arith))
