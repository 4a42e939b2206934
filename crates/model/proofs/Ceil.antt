-- What the proofs know of a quotient rounded up: it is 0 at 0, it does not fall, and one more separation
-- adds one.
use Rattle.std.proofs.Common.{◌≡◌, ℕ, zero, suc, ◌+◌, ◌-◌, ◌*◌, ◌/◌, ◌%◌, ◌<◌, ◌≤◌, ap, ◌∙◌, ⊎_elim, mod-lt, suc-mul, mul_comm, div-lt_iff_lt-mul, add-mul, mul-le-mul_left, le-div_iff_mul-le, zero-mul, div-mul-le_self, arith}
use native.Mathlib.Nat.{add-div_right, div-add-mod, div-eq_of_lt, div-zero}
use Rattle.std.proofs.lemmas.Bool.{cases_lt}
use Rattle.model.specs.Table.{ceil}

pub ceil_none : (w t : ℕ) → w ≡ 0 → ceil w t ≡ 0
unfolding ceil
ceil_none w t e =
    ⊎_elim
    (λ (pos : 0 < t). div-eq_of_lt {n = w + (t - 1)} {m = t} (omega arith))
    (λ (none : t ≤ 0). let z : t ≡ 0 = omega arith in rw z (div-zero (w + (0 - 1))))
    (cases_lt 0 t)

pub ceil_mono : (v w t : ℕ) → v ≤ w → ceil v t ≤ ceil w t
unfolding ceil
ceil_mono v w t h =
    ⊎_elim
    (λ (pos : 0 < t). let below = div-mul-le_self (v + (t - 1)) t in
    (le-div_iff_mul-le {k = t} {x = (v + (t - 1)) / t} {y = w + (t - 1)} pos).1 (omega arith))
    (λ (none : t ≤ 0). let z : t ≡ 0 = omega arith in rw (z, div-zero (v + (0 - 1))) (omega arith))
    (cases_lt 0 t)

pub ceil_more : (w t : ℕ) → 1 ≤ w → 1 ≤ t → ceil w t ≡ ceil (w - t) t + 1
unfolding ceil
ceil_more w t some pos =
    ⊎_elim
    (λ (short : w < t). let e : (w + (t - 1)) ≡ (w - 1) + t = omega arith in
    let z : (w - t) + (t - 1) < t = omega arith in
    rw (e, add-div_right (w - 1) {k = t} pos, div-eq_of_lt {n = w - 1} {m = t} (omega arith), div-eq_of_lt z))
    (λ (long : t ≤ w). let e : w + (t - 1) ≡ ((w - t) + (t - 1)) + t = omega arith in
    rw (e, add-div_right ((w - t) + (t - 1)) {k = t} pos))
    (cases_lt w t)

-- It is at most what was divided.
pub ceil_at_most : (w t : ℕ) → 1 ≤ t → ceil w t ≤ w
unfolding ceil
ceil_at_most w t some =
    let product : w * 1 ≤ w * t = mul-le-mul_left w some in
    let below : w + (t - 1) < (w + 1) * t = omega (arith, product, add-mul w 1 t) in
    let quotient : (w + (t - 1)) / t < w + 1 = (div-lt_iff_lt-mul some).1 below in
    omega arith

-- Whole separations are counted exactly.
pub ceil_whole : (n t : ℕ) → 1 ≤ t → ceil (n * t) t ≡ n
ceil_whole zero t some = ceil_none (0 * t) t (zero-mul t)
ceil_whole (suc n) t some =
    let more : suc n * t ≡ n * t + t = suc-mul n t in
    let rest : suc n * t - t ≡ n * t = omega arith in
    ceil_more (suc n * t) t (omega arith) some ∙ ap (λ w. ceil w t + 1) rest ∙ ap (λ k. k + 1) (ceil_whole n t some) ∙ omega arith

-- As many separations as it says cover what was divided.
pub ceil_covers : (w t : ℕ) → 1 ≤ t → w ≤ ceil w t * t
unfolding ceil
ceil_covers w t some =
    let parts : t * ((w + (t - 1)) / t) + (w + (t - 1)) % t ≡ w + (t - 1) = div-add-mod (w + (t - 1)) t in
    let rest : (w + (t - 1)) % t < t = mod-lt (w + (t - 1)) some in
    omega (arith, parts, rest, mul_comm t ((w + (t - 1)) / t))
