-- Demand: what the rows can ask of the processor up to a clock. The reckoning takes `from`, the first clock at which
-- an idle row may still be released: the clock plus 1 once the releases for the clock are over (the slack that is
-- answered), the clock itself while they may still come (the early reckoning, which the invariant goes by).
use Rattle.std.specs.Prelude.{ℕ, suc, ◌+◌, ◌-◌, ◌*◌, max, List, ◌∷◌, take, slice_index_or}
use Rattle.model.specs.Table.{ceil}
use Rattle.model.specs.declared.duties.Duty.{Duty}
use Rattle.model.specs.declared.rows.Row.{Row}
use Rattle.model.specs.declared.rows.Row.TheVariants.{Idle, Ready}

abbrev pub no_row : Row
no_row = Idle 0

-- The state of row i.
abbrev pub row_at : List Row → ℕ → Row
row_at rows i = slice_index_or rows i no_row

-- The first clock at which the row's next job can be released.
abbrev pub next_release : ℕ → Row → ℕ
next_release from (Idle e) = max e from
next_release from (Ready c d e) = e

-- The units left of the row's job, 0 where it has none.
abbrev pub left_of : Row → ℕ
left_of (Ready c d e) = c
left_of row = 0

-- What one row can ask of the processor up to the clock x: what is left of its job, and a whole job for each
-- release that can come before x.
abbrev pub need : ℕ → Duty → Row → ℕ → ℕ
need from duty row x = left_of row + duty.cost * ceil (x - next_release from row) duty.separation

-- What the rows can ask of the processor up to the clock x, all together.
abbrev pub demand : ℕ → List Duty → List Row → ℕ → ℕ
demand from (duty ∷ table) (row ∷ rows) x = need from duty row x + demand from table rows x
demand from table rows x = 0

-- The demand of row i up to the clock x: that of rows 0 to i.
abbrev pub demand_at : ℕ → List Duty → List Row → ℕ → ℕ → ℕ
demand_at from table rows i x = demand from (take (suc i) table) rows x
