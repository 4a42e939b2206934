-- The library's quotient rounded up is the definition's.
use Rattle.std.proofs.Common.{◌≡◌, ℕ, ◌+◌, ◌-◌, ◌*◌, ◌/◌, ◌%◌, ◌<◌, ◌≤◌, ap, ◌∙◌, add-mul, mod-lt, ⊎_elim, arith}
use Rattle.std.proofs.Math.Arith.{digits_div}
use Rattle.std.proofs.lemmas.Bool.{cases_lt}
use Rattle.std.proofs.lemmas.Nat.{div-add-mod'}
use Rattle.std.specs.Int.{div_ceil}
use Rattle.model.specs.Table.{ceil}

pub div_ceil_is : (w t : ℕ) → 1 ≤ t → div_ceil w t ≡ ceil w t
unfolding ceil
div_ceil_is w t some =
    let whole = div-add-mod' w t in
    let short : w % t < t = mod-lt w some in
    ⊎_elim
    (λ (even : w % t < 1). let sum : w + (t - 1) ≡ w / t * t + (t - 1) = omega arith in
    let quotient : (w + (t - 1)) / t ≡ w / t = ap (λ n. n / t) sum ∙ digits_div (w / t) (omega arith) in
    omega arith)
    (λ (rest : 1 ≤ w % t). let sum : w + (t - 1) ≡ (w / t + 1) * t + (w % t - 1) = omega (arith, add-mul (w / t) 1 t) in
    let quotient : (w + (t - 1)) / t ≡ w / t + 1 = ap (λ n. n / t) sum ∙ digits_div (w / t + 1) (omega arith) in
    omega arith)
    (cases_lt (w % t) 1)
