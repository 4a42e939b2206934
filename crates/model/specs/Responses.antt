-- The response time in the words of the subject.
use Rattle.std.specs.Prelude.{◌≡◌, ℕ, suc, ◌<◌, ◌≤◌, List, take, Some, None}
use Rattle.model.specs.Table.{busy, duty_at, response}
use Rattle.model.specs.declared.duties.Duty.{Duty}

-- w ticks, at least 1 and within row i's deadline, suffice for rows 0 to i, and no fewer do.
pub record ResponseTime (table : List Duty) (i w : ℕ) : Type 0 where
  pub enough : busy (take (suc i) table) w ≤ w
  pub some : 1 ≤ w
  pub in_time : w ≤ (duty_at table i).deadline
  pub no_fewer : (v : ℕ) → 1 ≤ v → busy (take (suc i) table) v ≤ v → w ≤ v

-- The response time that is answered is that one; and where there is none, no w within the deadline suffices.
abbrev pub ResponseIsLeast : Type 0
ResponseIsLeast =
    (table : List Duty) (i w : ℕ)
    → (response table i ≡ Some w → ResponseTime table i w)
    × (ResponseTime table i w → response table i ≡ Some w)
    × (response table i ≡ None → 1 ≤ w → w ≤ (duty_at table i).deadline → w < busy (take (suc i) table) w)
