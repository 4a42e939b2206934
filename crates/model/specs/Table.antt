-- The duty table. Row 0 is the most urgent. A row's response time is the least number of ticks that
-- suffices for one job of the row and for every job of a more urgent row that can come meanwhile.
use Rattle.std.specs.Prelude.{ℕ, suc, ◌+◌, ◌-◌, ◌*◌, ◌/◌, Bool, true, cond, not, ◌&&◌, List, [], ◌∷◌, length, take, is_some, Some, None, Option, nat_le, nat_lt, slice_index_or}
use Rattle.std.specs.List.{insert}
use Rattle.model.specs.Searches.{least}
use Rattle.model.specs.declared.duties.Duty.{Duty}

-- w ÷ t, rounded up.
unfoldable pub ceil : ℕ → ℕ → ℕ
ceil w t = (w + (t - 1)) / t

-- 1 ≤ cost ≤ deadline ≤ separation ≤ 4,096.
abbrev pub within_limits : Duty → Bool
within_limits d =
    nat_le 1 d.cost && nat_le d.cost d.deadline && nat_le d.deadline d.separation && nat_le d.separation 4096

-- What the rows can ask of the processor in w ticks that begin with a job of each: the sum over the rows of
-- cost × ceil (w ÷ separation).
abbrev pub busy : List Duty → ℕ → ℕ
busy [] w = 0
busy (d ∷ ds) w = d.cost * ceil w d.separation + busy ds w

abbrev pub no_duty : Duty
no_duty = record { cost = 0; deadline = 0; separation = 0 }

-- The duty of row i.
abbrev pub duty_at : List Duty → ℕ → Duty
duty_at table i = slice_index_or table i no_duty

-- w ticks suffice for rows 0 to i.
abbrev pub suffices : List Duty → ℕ → ℕ → Bool
suffices table i w = nat_le (busy (take (suc i) table) w) w

-- Row i's response time: the least w from 1 to its deadline that suffices for rows 0 to i.
abbrev pub response : List Duty → ℕ → Option ℕ
response table i = least (suffices table i) 1 (duty_at table i).deadline

-- Row i has no response time.
abbrev pub is_unschedulable : List Duty → ℕ → Bool
is_unschedulable table i = not (is_some (response table i))

-- The smallest row that has no response time.
abbrev pub first_unschedulable : List Duty → Option ℕ
first_unschedulable table = least (is_unschedulable table) 0 (length table)

-- Every duty is within its limits.
abbrev pub all_within : List Duty → Bool
all_within [] = true
all_within (d ∷ ds) = within_limits d && all_within ds

-- The tables that can exist: at most sixteen rows, each within its limits, and each with a response time.
abbrev pub admitted : List Duty → Bool
admitted table = nat_le (length table) 16 && all_within table && not (is_some (first_unschedulable table))

-- 4, and the row.
abbrev pub unschedulable_refusal : Option ℕ → List ℕ
unschedulable_refusal None = []
unschedulable_refusal (Some row) = 4 ∷ row ∷ []

-- What refuses the insertion of a duty at a place, the smallest number first: 1, there is no such place;
-- 2, the duty breaks its limits; 3, the table has sixteen rows; 4 with the smallest row of the new table
-- that has no response time.
abbrev pub add_refusal : List Duty → ℕ → Duty → List ℕ
add_refusal table place d =
    cond (nat_lt (length table) place) (1 ∷ [])
    (cond (not (within_limits d)) (2 ∷ [])
    (cond (nat_le 16 (length table)) (3 ∷ [])
    (unschedulable_refusal (first_unschedulable (insert table place d)))))

-- The table after the insertion was refused or accepted: as before, or with the duty at its place and the rows
-- from there on moved down one.
abbrev pub after_add : List Duty → ℕ → Duty → List Duty
after_add table place d = elim (add_refusal table place d) [ [] ↦ insert table place d | ◌∷◌ n ns ↦ table ]
