-- What the limits of duties say of the sums over them.
use Rattle.std.proofs.Common.{◌≡◌, ℕ, zero, suc, ◌+◌, ◌*◌, ◌<◌, ◌≤◌, true, List, [], ◌∷◌, length, take, drop, refl, ◌∙◌, mul-le-mul, arith}
use Rattle.std.proofs.lemmas.List.{at_drop_more}
use Rattle.std.proofs.lemmas.Bool.{and_from, and_parts}
use Rattle.std.specs.Int.{div_ceil}
use Rattle.table.proofs.DivCeil.{div_ceil_is}
use Rattle.model.proofs.Admitted.{limits_of}
use Rattle.model.proofs.Ceil.{ceil_at_most}
use Rattle.model.specs.Table.{all_within, busy, ceil, duty_at, no_duty}
use Rattle.model.specs.declared.duties.Duty.{Duty}

-- Sixteen rows ask less than 2⁴⁸ in any number of ticks of 32 bits.
pub busy_at_most : (ds : List Duty) (w : ℕ) → all_within ds ≡ true → w < 4294967296 → busy ds w ≤ length ds * 17592186044416
busy_at_most [] w h fits = omega arith
busy_at_most (d ∷ ds) w h fits =
    let l = limits_of d (and_parts _ _ h).0 in
    let few : d.cost ≤ 4096 = omega arith in
    let jobs : ceil w d.separation ≤ 4294967296 = omega (arith, ceil_at_most w d.separation (omega arith)) in
    let one : d.cost * ceil w d.separation ≤ 4096 * 4294967296 = mul-le-mul few jobs in
    omega (arith, busy_at_most ds w (and_parts _ _ h).1 fits)

module _ (ds : List Duty) (w k : ℕ) where
  -- Row k of the sum: its cost, and its jobs within w ticks.
  pub record RowBusy (cost jobs : ℕ) : Type 0 where
    pub inside : k < length ds
    pub apart : 1 ≤ (duty_at ds k).separation
    pub costs : cost ≡ (duty_at ds k).cost
    pub counts : jobs ≡ div_ceil w (duty_at ds k).separation

  -- The sum with row k more, and the rows that remain to be added.
  pub busy_more : (sum cost jobs : ℕ) → RowBusy cost jobs
      → sum + busy (drop k ds) w ≡ busy ds w
      → sum + cost * jobs + busy (drop (k + 1) ds) w ≡ busy ds w
  busy_more sum cost jobs row so_far =
      let more : busy (drop k ds) w ≡ (duty_at ds k).cost * ceil w (duty_at ds k).separation + busy (drop (k + 1) ds) w =
      at_drop_more (λ rest. busy rest w) ds k no_duty row.inside in
      let counted : jobs ≡ ceil w (duty_at ds k).separation = row.counts ∙ div_ceil_is w _ row.apart in
      rw (row.costs, counted) (omega arith)

-- The first rows of a table within its limits are within theirs.
pub within_take : (n : ℕ) (ds : List Duty) → all_within ds ≡ true → all_within (take n ds) ≡ true
within_take zero ds h = refl
within_take (suc n) [] h = refl
within_take (suc n) (d ∷ ds) h =
    let both = and_parts _ _ h in
    and_from _ _ both.0 (within_take n ds both.1)
