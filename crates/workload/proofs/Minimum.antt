-- The running minimum of the row slacks, which begins at 65,535.
use Rattle.std.proofs.Common.{◌≡◌, ℕ, zero, suc, ◌+◌, ◌≤◌, min, arith}
use Rattle.model.specs.Searches.{lowest}

-- The least of the first n values, 65,535 of none.
abbrev pub least_of : (ℕ → ℕ) → ℕ → ℕ
least_of f zero = 65535
least_of f (suc n) = lowest f n

pub least_of_more : (f : ℕ → ℕ) (n : ℕ) → f n ≤ 65535 → min (least_of f n) (f n) ≡ least_of f (n + 1)
least_of_more f zero le = omega arith
least_of_more f (suc n) le = let e : suc n + 1 ≡ suc (suc n) = omega arith in rw e
