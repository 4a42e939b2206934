-- What an admitted table gives: the limits of each duty, and for each row a time within its deadline that suffices
-- for it and the rows above it.
use Rattle.std.proofs.Common.{◌≡◌, ℕ, zero, suc, ◌<◌, ◌≤◌, true, not, ◌&&◌, nat_le, List, [], ◌∷◌, length, take, is_some, None, arith}
use Rattle.std.proofs.lemmas.Bool.{and_parts, leb-true, not-false, not-true}
use Rattle.std.proofs.lemmas.Bool.Decides.{nat_tests}
use Rattle.model.specs.Table.{busy, within_limits, all_within, suffices, response, is_unschedulable, first_unschedulable, admitted, duty_at}
use Rattle.model.specs.declared.duties.Duty.{Duty}
use Rattle.model.proofs.Searches.{none_passes, none_is, search_finds}

-- 1 ≤ cost ≤ deadline ≤ separation ≤ 4,096.
pub record Limits (duty : Duty) : Type 0 where
  pub cost_some : 1 ≤ duty.cost
  pub cost_fits : duty.cost ≤ duty.deadline
  pub deadline_fits : duty.deadline ≤ duty.separation
  pub separation_fits : duty.separation ≤ 4096

pub limits_of : (duty : Duty) → within_limits duty ≡ true → Limits duty
limits_of duty h =
    record {
      cost_some = grind (arith, nat_tests);
      cost_fits = grind (arith, nat_tests);
      deadline_fits = grind (arith, nat_tests);
      separation_fits = grind (arith, nat_tests);
    }

-- Each duty of a table within its limits is.
pub within_at : (table : List Duty) → all_within table ≡ true → (i : ℕ) → i < length table → within_limits (duty_at table i) ≡ true
within_at [] h i short = absurd (omega arith)
within_at (duty ∷ table) h zero short = (and_parts (within_limits duty) (all_within table) h).0
within_at (duty ∷ table) h (suc i) short = within_at table (and_parts (within_limits duty) (all_within table) h).1 i (omega arith)

pub limits_at : (table : List Duty) → all_within table ≡ true → (i : ℕ) → i < length table → Limits (duty_at table i)
limits_at table h i short = limits_of (duty_at table i) (within_at table h i short)

-- What `admitted` says: few rows, each within its limits and none late.
pub record Admitted (table : List Duty) : Type 0 where
  pub few : length table ≤ 16
  pub within : all_within table ≡ true
  pub on_time : first_unschedulable table ≡ None

pub admitted_says : (table : List Duty) → admitted table ≡ true → Admitted table
admitted_says table ok =
    let (sizes, responses) = and_parts (nat_le (length table) 16 && all_within table) (not (is_some (first_unschedulable table))) ok in
    let (few, within) = and_parts (nat_le (length table) 16) (all_within table) sizes in
    record {
      few = leb-true (length table) 16 few;
      within = within;
      on_time = none_is (first_unschedulable table) (not-true (is_some (first_unschedulable table)) responses);
    }

module _ (table : List Duty) (ok : admitted table ≡ true) where
  -- Each duty is within its limits.
  pub admitted_limits : (i : ℕ) → i < length table → Limits (duty_at table i)
  admitted_limits = limits_at table (admitted_says table ok).within

  -- Each row has a response time,
  pub has_response : (i : ℕ) → i < length table → is_some (response table i) ≡ true
  has_response i short =
      not-false (is_some (response table i))
      (none_passes (is_unschedulable table) 0 (length table) (admitted_says table ok).on_time i (omega arith) (omega arith))

  -- a number of ticks within its deadline that suffices.
  pub admitted_response :
      (i : ℕ)
      → i < length table
      → (w : ℕ) × (1 ≤ w) × (w ≤ (duty_at table i).deadline) × (busy (take (suc i) table) w ≤ w)
  admitted_response i short =
      let (w, found) = search_finds (suffices table i) 1 (duty_at table i).deadline (has_response i short) in
      (w, found.above, omega (arith, found.below), leb-true (busy (take (suc i) table) w) w found.passed)
