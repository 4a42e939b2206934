-- The order of slots by their ratings, and that it is a total order of ranks.
use Rattle.std.specs.Prelude.{ℕ, ◌*◌, ◌<◌, ◌≤◌, Bool}
use Rattle.std.proofs.Common.{le_of_lt, mul-le-mul_right, mul_right_comm, le_of_mul-le-mul_right, arith, ltb-true, ltb-false, le-ltb}
use Rattle.list.specs.Order.{Asymmetric, NegativelyTransitive}
use Rattle.queue.specs.Ratings.{outrates}
use Rattle.queue.specs.declared.slots.Slot.{Slot}

-- A slot goes before another that it outrates.
abbrev pub ranks : Slot → Slot → Bool
ranks x y = outrates x.rating y.rating

-- x has no more worth for a unit than y, and y no more than z: then x has no more than z.
pub no_more_worth_transitive : (xw xu yw yu zw zu : ℕ) → 0 < yu → xw * yu ≤ yw * xu → yw * zu ≤ zw * yu → xw * zu ≤ zw * xu
no_more_worth_transitive xw xu yw yu zw zu some h k =
    let scaled : xw * zu * yu ≤ zw * xu * yu =
    omega (
      arith,
      mul-le-mul_right zu h,
      mul-le-mul_right xu k,
      mul_right_comm xw zu yu,
      mul_right_comm yw xu zu,
      mul_right_comm zw yu xu,
    ) in
    le_of_mul-le-mul_right scaled some

pub ranks_asymmetric : Asymmetric ranks
ranks_asymmetric x y h = le-ltb _ _ (le_of_lt (ltb-true _ _ h))

pub ranks_negatively_transitive : NegativelyTransitive ranks
ranks_negatively_transitive x y z h k =
    le-ltb _ _
    (no_more_worth_transitive x.rating.worth x.rating.units y.rating.worth y.rating.units z.rating.worth
    z.rating.units y.rating.some (ltb-false _ _ h) (ltb-false _ _ k))
