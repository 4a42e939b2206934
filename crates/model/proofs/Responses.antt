-- The search for a response time finds the least number of ticks that suffices.
use Rattle.std.proofs.Common.{◌≡◌, ℕ, suc, ◌<◌, ◌≤◌, List, take, Some, None, ⊎_elim, arith}
use Rattle.std.proofs.lemmas.Bool.{cases_Bool, cases_lt, le-leb, leb-false, leb-true}
use Rattle.model.proofs.Searches.{least_found, least_is, none_passes}
use Rattle.model.specs.Responses.{ResponseIsLeast, ResponseTime}
use Rattle.model.specs.Table.{busy, duty_at, response, suffices}
use Rattle.model.specs.declared.duties.Duty.{Duty}

module _ (table : List Duty) (i : ℕ) where
  answered : (w : ℕ) → response table i ≡ Some w → ResponseTime table i w
  answered w e =
      let found = least_found (suffices table i) 1 (duty_at table i).deadline w e in
      record {
        enough = leb-true _ _ found.passed;
        some = found.above;
        in_time = omega (arith, found.below);
        no_fewer = λ v some enough.
            ⊎_elim
            (λ lt. absurd (omega (arith, leb-false _ _ (found.first v some lt))))
            (λ le. le)
            (cases_lt v w);
      }

  least_answered : (w : ℕ) → ResponseTime table i w → response table i ≡ Some w
  least_answered w h =
      least_is (suffices table i) 1 (duty_at table i).deadline w
      (record {
        passed = le-leb _ _ h.enough;
        above = h.some;
        below = omega (arith, h.in_time);
        first = λ v some lt.
            ⊎_elim
            (λ t. absurd (omega (arith, h.no_fewer v some (leb-true _ _ t))))
            (λ f. f)
            (cases_Bool (suffices table i v));
      })

  never : (w : ℕ) → response table i ≡ None → 1 ≤ w → w ≤ (duty_at table i).deadline → w < busy (take (suc i) table) w
  never w e some in_time =
      leb-false _ _ (none_passes (suffices table i) 1 (duty_at table i).deadline e w some (omega arith))

pub response_is_least : ResponseIsLeast
response_is_least table i w = (answered table i w, least_answered table i w, never table i w)
