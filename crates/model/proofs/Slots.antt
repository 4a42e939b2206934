-- Slots of which the first few are in use: what these hold after one was written.
use Rattle.std.proofs.Common.{◌≡◌, ℕ, zero, suc, List, [], ◌∷◌, take, slice_set, refl, ap}

-- An entry written among the slots is written among the first of them.
pub take_set : {E : Type 0} (xs : List E) (n i : ℕ) (e : E) → take n (slice_set xs i e) ≡ slice_set (take n xs) i e
take_set xs zero i e = refl
take_set [] (suc n) i e = refl
take_set (x ∷ xs) (suc n) zero e = refl
take_set (x ∷ xs) (suc n) (suc i) e = ap (λ ys. x ∷ ys) (take_set xs n i e)
