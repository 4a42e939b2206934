use Rattle.std.proofs.Common.{◌≡◌, ◌<◌, ℕ, true, false, List, length, Some, None, Option, MatchOption, sym, arith, rules}
use Rattle.std.proofs.lemmas.Iterator.{IsFirst-from_position, YieldsList-from_slice}
use Rattle.std.specs.List.{AllWithin, HoldsAt}
use Rattle.model.proofs.Searches.{least_is, least_none}
use Rattle.model.specs.Machine.{first_ready, is_ready, ready_at}
use Rattle.model.specs.Demand.{no_row}
use Rattle.model.specs.declared.rows.Row.{Row}
use Rattle.workload.specs.Workloads.{work_in}
use Rattle.workload.proofs.workloads.Workload.first_ready.Goals as goal

-- The first place at which a row is ready.
abbrev IsReady : Row → Type 0
IsReady row = is_ready row ≡ true

abbrev NotReady : Row → Type 0
NotReady row = is_ready row ≡ false

first_place : (rows : List Row) (o : Option ℕ)
    → MatchOption o (AllWithin NotReady rows 0 (length rows)) (λ i. (i < length rows) × HoldsAt IsReady rows i × AllWithin NotReady rows 0 i)
    → o ≡ first_ready rows
first_place rows None none = sym (least_none (ready_at rows) 0 (length rows) (λ k low high. none k no_row low (omega arith)))
first_place rows (Some i) (inside, ready, others) =
    sym (least_is (ready_at rows) 0 (length rows) i
    (record { passed = ready no_row; above = omega arith; below = omega arith; first = λ k low before. others k no_row low before }))

pub returns : goal.returns
returns c =
    first_place (work_in c.args.self.now).rows c.position.result
    (IsFirst-from_position _ _ _ IsReady NotReady c.position.ensures.ran
    (YieldsList-from_slice (work_in c.args.self.now).rows cc)
    (λ x q k. search rules)
    (λ x q k. search rules))
