-- The least number that passes a test, and the greatest and the least value of a function.
use Rattle.std.specs.Prelude.{ℕ, zero, suc, min, max, Bool, true, false, Some, None, Option}

-- The least of the n numbers from `low` on that passes the test, if any does.
abbrev pub least : (ℕ → Bool) → ℕ → ℕ → Option ℕ
least passes low zero = None
least passes low (suc n) = elim (passes low) [ true ↦ Some low | false ↦ least passes (suc low) n ]

-- The greatest of f 0 to f n.
abbrev pub greatest : (ℕ → ℕ) → ℕ → ℕ
greatest f zero = f zero
greatest f (suc n) = max (greatest f n) (f (suc n))

-- The least of f 0 to f n.
abbrev pub lowest : (ℕ → ℕ) → ℕ → ℕ
lowest f zero = f zero
lowest f (suc n) = min (lowest f n) (f (suc n))
