-- Sums of what a function says of the first numbers. Demand and busy time are such sums over the rows of a table, so a
-- fact about each row gives one about the demand of a row.
use Rattle.std.proofs.Common.{◌≡◌, ℕ, zero, suc, ◌+◌, ◌*◌, ◌<◌, ◌≤◌, List, [], ◌∷◌, length, take, refl, ◌∙◌, arith}
use Rattle.model.specs.Demand.{need, demand, demand_at, row_at}
use Rattle.model.specs.Table.{ceil, busy, duty_at}
use Rattle.model.specs.declared.duties.Duty.{Duty}
use Rattle.model.specs.declared.rows.Row.{Row}

-- f 0 + … + f (m − 1).
abbrev pub sum_to : (ℕ → ℕ) → ℕ → ℕ
sum_to f zero = 0
sum_to f (suc m) = f 0 + sum_to (λ i. f (suc i)) m

-- Row by row at most as much: at most as much in all.
sum_le : (f g : ℕ → ℕ) (m : ℕ) → ((i : ℕ) → i < m → f i ≤ g i) → sum_to f m ≤ sum_to g m
sum_le f g zero each = omega arith
sum_le f g (suc m) each =
    omega (arith, each 0 (omega arith), sum_le (λ i. f (suc i)) (λ i. g (suc i)) m (λ i h. each (suc i) (omega arith)))

-- At most as much in each row, and one less in row k: one less in all.
sum_less :
    (f g : ℕ → ℕ) (k m : ℕ)
    → k < m → ((i : ℕ) → i < m → f i ≤ g i) → f k + 1 ≤ g k → sum_to f m + 1 ≤ sum_to g m
sum_less f g k zero in-range each less = absurd (omega arith)
sum_less f g zero (suc m) in-range each less =
    omega (arith, sum_le (λ i. f (suc i)) (λ i. g (suc i)) m (λ i h. each (suc i) (omega arith)))
sum_less f g (suc k) (suc m) in-range each less =
    omega (
      arith,
      each 0 (omega arith),
      sum_less (λ i. f (suc i)) (λ i. g (suc i)) k m (omega arith) (λ i h. each (suc i) (omega arith)) less,
    )

-- At most as much in each row but k, and at most one more there: at most one more in all.
sum_one_more :
    (f g : ℕ → ℕ) (k m : ℕ)
    → ((i : ℕ) → i < m → (i ≡ k → ⊥) → f i ≤ g i) → f k ≤ g k + 1 → sum_to f m ≤ sum_to g m + 1
sum_one_more f g k zero each more = omega arith
sum_one_more f g zero (suc m) each more =
    omega
    (arith, more, sum_le (λ i. f (suc i)) (λ i. g (suc i)) m (λ i h. each (suc i) (omega arith) (omega arith)))
sum_one_more f g (suc k) (suc m) each more =
    omega (
      arith,
      each 0 (omega arith) (omega arith),
      sum_one_more (λ i. f (suc i)) (λ i. g (suc i)) k m (λ i h other. each (suc i) (omega arith) (λ e. other (omega arith))) more,
    )

-- One row of a sum is at most the sum.
sum_has : (f : ℕ → ℕ) (k m : ℕ) → k < m → f k ≤ sum_to f m
sum_has f k zero h = absurd (omega arith)
sum_has f zero (suc m) h = omega arith
sum_has f (suc k) (suc m) h = omega (arith, sum_has (λ i. f (suc i)) k m (omega arith))

-- Nothing in each row: nothing in all.
pub sum_none : (f : ℕ → ℕ) (m : ℕ) → ((i : ℕ) → i < m → f i ≡ 0) → sum_to f m ≡ 0
sum_none f zero each = refl
sum_none f (suc m) each = omega (arith, each 0 (omega arith), sum_none (λ i. f (suc i)) m (λ i h. each (suc i) (omega arith)))

-- As much in each row: as much in all.
pub sum_same : (f g : ℕ → ℕ) (m : ℕ) → ((i : ℕ) → i < m → f i ≡ g i) → sum_to f m ≡ sum_to g m
sum_same f g zero each = refl
sum_same f g (suc m) each =
    omega (arith, each 0 (omega arith), sum_same (λ i. f (suc i)) (λ i. g (suc i)) m (λ i h. each (suc i) (omega arith)))

-- Two parts in each row: the sum of each part, together.
pub sum_both : (f g : ℕ → ℕ) (m : ℕ) → sum_to (λ i. f i + g i) m ≡ sum_to f m + sum_to g m
sum_both f g zero = refl
sum_both f g (suc m) = omega (arith, sum_both (λ i. f (suc i)) (λ i. g (suc i)) m)

-- Nothing in each row but k: in all what row k has.
pub sum_alone : (f : ℕ → ℕ) (k m : ℕ) → k < m → ((i : ℕ) → i < m → (i ≡ k → ⊥) → f i ≡ 0) → sum_to f m ≡ f k
sum_alone f k zero inside others = absurd (omega arith)
sum_alone f zero (suc m) inside others =
    omega (arith, sum_none (λ i. f (suc i)) m (λ i h. others (suc i) (omega arith) (omega arith)))
sum_alone f (suc k) (suc m) inside others =
    omega (
      arith,
      others 0 (omega arith) (omega arith),
      sum_alone (λ i. f (suc i)) k m (omega arith) (λ i h other. others (suc i) (omega arith) (λ e. other (omega arith))),
    )

-- What row i needs up to the clock x.
abbrev pub need_at : ℕ → List Duty → List Row → ℕ → ℕ → ℕ
need_at from table rows x i = need from (duty_at table i) (row_at rows i) x

demand_is_sum :
    (from x m : ℕ) (table : List Duty) (rows : List Row)
    → m ≤ length table → m ≤ length rows → demand from (take m table) rows x ≡ sum_to (need_at from table rows x) m
demand_is_sum from x zero table rows a b = refl
demand_is_sum from x (suc m) [] rows a b = absurd (omega arith)
demand_is_sum from x (suc m) (duty ∷ table) [] a b = absurd (omega arith)
demand_is_sum from x (suc m) (duty ∷ table) (row ∷ rows) a b =
    omega (arith, demand_is_sum from x m table rows (omega arith) (omega arith))

-- What row i can ask in w ticks that begin with a job of it.
abbrev pub busy_at : List Duty → ℕ → ℕ → ℕ
busy_at table w i = (duty_at table i).cost * ceil w (duty_at table i).separation

busy_is_sum : (w m : ℕ) (table : List Duty) → m ≤ length table → busy (take m table) w ≡ sum_to (busy_at table w) m
busy_is_sum w zero table a = refl
busy_is_sum w (suc m) [] a = absurd (omega arith)
busy_is_sum w (suc m) (duty ∷ table) a = omega (arith, busy_is_sum w m table (omega arith))

-- The demand of row i, from what each row down to it needs.
module _ (table : List Duty) (i : ℕ) (inside : i < length table) where
  demand_sum :
      (from x : ℕ) (rows : List Row)
      → length rows ≡ length table → demand_at from table rows i x ≡ sum_to (need_at from table rows x) (suc i)
  demand_sum from x rows same = demand_is_sum from x (suc i) table rows inside (omega arith)

  -- It is at least what each row needs,
  pub demand_has :
      (from x : ℕ) (rows : List Row)
      → length rows ≡ length table → (k : ℕ) → k ≤ i → need_at from table rows x k ≤ demand_at from table rows i x
  demand_has from x rows same k above =
      omega (arith, demand_sum from x rows same, sum_has (need_at from table rows x) k (suc i) (omega arith))

  -- nothing where none needs anything,
  pub demand_none :
      (from x : ℕ) (rows : List Row)
      → length rows ≡ length table
      → ((k : ℕ) → k ≤ i → need_at from table rows x k ≡ 0)
      → demand_at from table rows i x ≡ 0
  demand_none from x rows same each =
      demand_sum from x rows same ∙ sum_none (need_at from table rows x) (suc i) (λ k h. each k (omega arith))

  -- and at most the busy time where each needs at most its part of that.
  pub demand_busy :
      (from x w : ℕ) (rows : List Row)
      → length rows ≡ length table
      → ((k : ℕ) → k ≤ i → need_at from table rows x k ≤ busy_at table w k)
      → demand_at from table rows i x ≤ busy (take (suc i) table) w
  demand_busy from x w rows same each =
      omega (
        arith,
        demand_sum from x rows same,
        busy_is_sum w (suc i) table inside,
        sum_le (need_at from table rows x) (busy_at table w) (suc i) (λ k h. each k (omega arith)),
      )

  -- Between two states of the rows, under two reckonings.
  module _ (from later x : ℕ) (rows rows' : List Row) (same : length rows ≡ length table) (same' : length rows' ≡ length table) where
    -- No row needs more: the demand is no more.
    pub demand_le :
        ((k : ℕ) → k ≤ i → need_at later table rows' x k ≤ need_at from table rows x k)
        → demand_at later table rows' i x ≤ demand_at from table rows i x
    demand_le each =
        omega (
          arith,
          demand_sum from x rows same,
          demand_sum later x rows' same',
          sum_le (need_at later table rows' x) (need_at from table rows x) (suc i) (λ k h. each k (omega arith)),
        )

    -- No row needs more, and row k one less: the demand is one less.
    pub demand_less :
        (k : ℕ)
        → k ≤ i
        → ((j : ℕ) → j ≤ i → need_at later table rows' x j ≤ need_at from table rows x j)
        → need_at later table rows' x k + 1 ≤ need_at from table rows x k
        → demand_at later table rows' i x + 1 ≤ demand_at from table rows i x
    demand_less k above each less =
        omega (
          arith,
          demand_sum from x rows same,
          demand_sum later x rows' same',
          sum_less (need_at later table rows' x) (need_at from table rows x) k (suc i) (omega arith) (λ j h. each j (omega arith)) less,
        )

    -- Every row but k needs as much, and row k at most one less: the demand is at most one less.
    pub demand_one_less :
        (k : ℕ)
        → ((j : ℕ) → j ≤ i → (j ≡ k → ⊥) → need_at from table rows x j ≤ need_at later table rows' x j)
        → need_at from table rows x k ≤ need_at later table rows' x k + 1
        → demand_at from table rows i x ≤ demand_at later table rows' i x + 1
    demand_one_less k each more =
        omega (
          arith,
          demand_sum from x rows same,
          demand_sum later x rows' same',
          sum_one_more (need_at from table rows x) (need_at later table rows' x) k (suc i) (λ j h. each j (omega arith)) more,
        )
