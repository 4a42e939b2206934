-- The rows of a kept machine seen from its clock: releases and windows lie ahead, so what the rows ask for from the
-- clock on is the demand of the definition.
use Rattle.std.proofs.Common.{◌≡◌, ℕ, zero, suc, ◌+◌, ◌-◌, ◌*◌, ◌<◌, ◌≤◌, true, List, [], ◌∷◌, length, get_or, take, refl, ap, subst, arith}
use Rattle.std.proofs.lemmas.Bool.{and_from, le-leb}
use Rattle.model.proofs.Admitted.{Limits, admitted_limits, admitted_says, limits_of, within_at}
use Rattle.model.proofs.Invariant.{RowNumbers, kept_gives, row_kept_from, row_kept_gives}
use Rattle.model.proofs.Kept.{kept_before_due}
use Rattle.model.specs.Demand.{demand, left_of, need, next_release, row_at}
use Rattle.model.specs.Kept.{Keeps, row_kept}
use Rattle.model.specs.Machine.{Work}
use Rattle.model.specs.Slack.{window_end}
use Rattle.model.specs.Table.{ceil, duty_at, within_limits}
use Rattle.model.specs.declared.duties.Duty.{Duty}
use Rattle.model.specs.declared.rows.Row.{Row}
use Rattle.model.specs.declared.rows.Row.TheVariants.{Idle, Ready}
use Rattle.workload.specs.Streams.{all_ask, all_bounded, asks, stream_of, streams_of, bounded}
use Rattle.workload.specs.declared.streams.Stream.{Stream}

-- What is known of one row: its duty's limits, its numbers, and that its next release and the end of its window lie
-- ahead.
pub record RowAhead (clock : ℕ) (duty : Duty) (row : Row) : Type 0 where
  pub limits : within_limits duty ≡ true
  pub numbers : row_kept clock duty row ≡ true
  pub release_ahead : clock ≤ next_release (clock + 1) row
  pub window_ahead : clock ≤ window_end (clock + 1) duty row

module _ (w : Work) (keeps : Keeps w) where
  release_lies : (i : ℕ) (row : Row) → i < length w.table → row_at w.rows i ≡ row → w.clock ≤ next_release (w.clock + 1) row
  release_lies i (Idle e) inside at = omega arith
  release_lies i (Ready c d e) inside at =
      let due = kept_before_due w keeps.work_kept i c d e at in
      let numbers : RowNumbers w.clock (duty_at w.table i) (Ready c d e) =
      subst (λ (row : Row). RowNumbers w.clock (duty_at w.table i) row) at ((kept_gives 0 w keeps.work_kept).numbers.each i inside) in
      omega (arith, due, numbers.2, (admitted_limits w.table keeps.table_admitted i inside).deadline_fits)

  window_lies : (i : ℕ) (row : Row) → i < length w.table → row_at w.rows i ≡ row → w.clock ≤ window_end (w.clock + 1) (duty_at w.table i) row
  window_lies i (Idle e) inside at = omega arith
  window_lies i (Ready c d e) inside at = omega (arith, kept_before_due w keeps.work_kept i c d e at)

  pub row_ahead : (i : ℕ) → i < length w.table → RowAhead w.clock (duty_at w.table i) (row_at w.rows i)
  row_ahead i inside =
      record {
        limits = within_at w.table (admitted_says w.table keeps.table_admitted).within i inside;
        numbers = row_kept_from w.clock (duty_at w.table i) (row_at w.rows i) ((kept_gives 0 w keeps.work_kept).numbers.each i inside);
        release_ahead = release_lies i (row_at w.rows i) inside refl;
        window_ahead = window_lies i (row_at w.rows i) inside refl;
      }

-- A row asks for its need.
pub asks_is_need : (clock : ℕ) (duty : Duty) (row : Row) (w : ℕ)
    → clock ≤ next_release (clock + 1) row → asks (stream_of clock duty row) w ≡ need (clock + 1) duty row (clock + w)
asks_is_need clock duty row w ahead =
    let since : w - (next_release (clock + 1) row - clock) ≡ clock + w - next_release (clock + 1) row = omega arith in
    ap (λ n. left_of row + duty.cost * ceil n duty.separation) since

-- The first rows ask for their demand.
pub all_ask_is_demand : (clock : ℕ) (table : List Duty) (rows : List Row) (n w : ℕ) → length rows ≡ length table
    → ((i : ℕ) → i < length table → clock ≤ next_release (clock + 1) (row_at rows i))
    → all_ask (take n (streams_of clock table rows)) w ≡ demand (clock + 1) (take n table) rows (clock + w)
all_ask_is_demand clock table rows zero w same ahead = refl
all_ask_is_demand clock [] rows (suc n) w same ahead = refl
all_ask_is_demand clock (duty ∷ table) [] (suc n) w same ahead = absurd (omega arith)
all_ask_is_demand clock (duty ∷ table) (row ∷ rows) (suc n) w same ahead =
    let here = asks_is_need clock duty row w (ahead 0 (omega arith)) in
    let rest = all_ask_is_demand clock table rows n w (omega arith) (λ i lt. ahead (suc i) (omega arith)) in
    omega (arith, here, rest)

-- The streams, place by place.
pub streams_length : (clock : ℕ) (table : List Duty) (rows : List Row) → length rows ≡ length table → length (streams_of clock table rows) ≡ length table
streams_length clock [] rows same = refl
streams_length clock (duty ∷ table) [] same = absurd (omega arith)
streams_length clock (duty ∷ table) (row ∷ rows) same = ap suc (streams_length clock table rows (omega arith))

pub streams_at : (clock : ℕ) (table : List Duty) (rows : List Row) (i : ℕ) (s : Stream) → length rows ≡ length table → i < length table
    → get_or (streams_of clock table rows) i s ≡ stream_of clock (duty_at table i) (row_at rows i)
streams_at clock [] rows i s same lt = absurd (omega arith)
streams_at clock (duty ∷ table) [] i s same lt = absurd (omega arith)
streams_at clock (duty ∷ table) (row ∷ rows) zero s same lt = refl
streams_at clock (duty ∷ table) (row ∷ rows) (suc i) s same lt = streams_at clock table rows i s (omega arith) (omega arith)

-- Their numbers are bounded.
left_small : (clock : ℕ) (duty : Duty) (row : Row) → Limits duty → RowNumbers clock duty row → left_of row ≤ 4096
left_small clock duty (Idle e) l n = omega arith
left_small clock duty (Ready c d e) l n = omega (arith, n.1, l.cost_fits, l.deadline_fits, l.separation_fits)

first_small : (clock : ℕ) (duty : Duty) (row : Row) → Limits duty → RowNumbers clock duty row → next_release (clock + 1) row - clock ≤ 4096
first_small clock duty (Idle e) l n = omega (arith, l.cost_some, l.cost_fits, l.deadline_fits, l.separation_fits)
first_small clock duty (Ready c d e) l n = omega (arith, n.3, l.separation_fits)

stream_bounded : (clock : ℕ) (duty : Duty) (row : Row) → RowAhead clock duty row → bounded (stream_of clock duty row) ≡ true
stream_bounded clock duty row h =
    let l = limits_of duty h.limits in
    let n = row_kept_gives clock duty row h.numbers in
    let small : duty.cost ≤ 4096 = omega (arith, l.cost_fits, l.deadline_fits, l.separation_fits) in
    let some : 1 ≤ duty.separation = omega (arith, l.cost_some, l.cost_fits, l.deadline_fits) in
    and_from _ _
    (and_from _ _
    (and_from _ _
    (and_from _ _ (le-leb _ _ (left_small clock duty row l n)) (le-leb _ _ (first_small clock duty row l n)))
    (le-leb _ _ small))
    (le-leb _ _ some))
    (le-leb _ _ l.separation_fits)

pub streams_bounded : (clock : ℕ) (table : List Duty) (rows : List Row) → length rows ≡ length table
    → ((i : ℕ) → i < length table → RowAhead clock (duty_at table i) (row_at rows i)) → all_bounded (streams_of clock table rows) ≡ true
streams_bounded clock [] rows same ahead = refl
streams_bounded clock (duty ∷ table) [] same ahead = refl
streams_bounded clock (duty ∷ table) (row ∷ rows) same ahead =
    and_from _ _ (stream_bounded clock duty row (ahead 0 (omega arith)))
    (streams_bounded clock table rows (omega arith) (λ i lt. ahead (suc i) (omega arith)))
