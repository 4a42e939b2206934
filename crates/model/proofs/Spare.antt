-- When a row has ticks to spare. Where its demand can be met by some clock within its window it has, even if that
-- clock does not lie ahead: then none of the rows down to it has a job, and its response time serves.
use Rattle.std.proofs.Common.{◌≡◌, ℕ, ◌+◌, ◌-◌, ◌*◌, ◌<◌, ◌≤◌, true, false, List, length, refl, ap, ⊎_elim, arith}
use lib.ListN.{length-replicate, get_or-replicate}
use Rattle.std.proofs.lemmas.Bool.{cases_lt, both_ways}
use Rattle.model.specs.Demand.{need, row_at, no_row}
use Rattle.model.specs.Kept.{Keeps}
use Rattle.model.specs.Machine.{Work, fresh_work, is_ready, ready_at}
use Rattle.model.specs.Slack.{window_end}
use Rattle.model.specs.Table.{ceil, admitted, duty_at}
use Rattle.model.specs.declared.duties.Duty.{Duty}
use Rattle.model.specs.declared.rows.Row.{Row}
use Rattle.model.specs.declared.rows.Row.TheVariants.{Idle, Ready}
use Rattle.model.proofs.Admitted.{admitted_response}
use Rattle.model.proofs.Demand.{need_idle_none, need_idle_busy}
use Rattle.model.proofs.Invariant.{RowNumbers, Numbers, Met, Spares, kept_from}
use Rattle.model.proofs.Sums.{need_at, demand_has, demand_none, demand_busy}

-- A row that needs nothing has no job: in w ticks it can ask no more than a row that begins with a job,
needless_busy :
    (clock : ℕ) (duty : Duty) (row : Row) (x w : ℕ)
    → RowNumbers clock duty row
    → need clock duty row x ≤ 0
    → need clock duty row (clock + w) ≤ duty.cost * ceil w duty.separation
needless_busy clock duty (Idle e) x w numbers needless =
    let ticks : clock + w - clock ≡ w = omega arith in
    rw ticks at (need_idle_busy clock duty e (clock + w))
needless_busy clock duty (Ready c d e) x w numbers needless = absurd (omega (arith, numbers.0))

-- and its window has a whole deadline to go.
needless_window :
    (clock : ℕ) (duty : Duty) (row : Row) (x : ℕ)
    → RowNumbers clock duty row → need clock duty row x ≤ 0 → clock + duty.deadline ≤ window_end clock duty row
needless_window clock duty (Idle e) x numbers needless = omega arith
needless_window clock duty (Ready c d e) x numbers needless = absurd (omega (arith, numbers.0))

module _ (w : Work) (ok : admitted w.table ≡ true) (numbers : Numbers w) (i : ℕ) (inside : i < length w.table) where
  -- Where no row down to row i needs anything, its slack is not below 0: its response time serves.
  needless_spares : (x : ℕ) → ((k : ℕ) → k ≤ i → need_at w.clock w.table w.rows x k ≤ 0) → Spares w.clock w i 0
  needless_spares x needless =
      let (ticks, some, fits, enough) = admitted_response w.table ok i inside in
      let busy =
      demand_busy w.table i inside w.clock (w.clock + ticks) ticks w.rows numbers.same_length
      (λ k h. needless_busy w.clock (duty_at w.table k) (row_at w.rows k) x ticks (numbers.each k (omega arith)) (needless k h)) in
      let open-long =
      needless_window w.clock (duty_at w.table i) (row_at w.rows i) x (numbers.each i inside) (needless i (omega arith)) in
      (w.clock + ticks, omega arith, (omega arith, omega arith))

  -- Whatever clock it is that meets the demand.
  pub met_spares : (r x : ℕ) → Met w.clock w i r x → Spares w.clock w i r
  met_spares r x (before_end, met) =
      ⊎_elim
      (λ ahead. (x, ahead, (before_end, met)))
      (λ over.
      let none : r ≡ 0 = omega arith in
      rw none
      (needless_spares x
      (λ k h. omega (arith, demand_has w.table i inside w.clock x w.rows numbers.same_length k h))))
      (cases_lt w.clock x)

-- A row without a job needs nothing up to the first clock at which it may be released, and its window is open then.
pub idle_needs_none : (from : ℕ) (duty : Duty) (row : Row) → is_ready row ≡ false → need from duty row from ≡ 0
idle_needs_none from duty (Idle e) idle = need_idle_none from duty e from (omega arith)
idle_needs_none from duty (Ready c d e) idle = absurd (both_ways true idle refl)

idle_window : (from : ℕ) (duty : Duty) (row : Row) → is_ready row ≡ false → from ≤ window_end from duty row
idle_window from duty (Idle e) idle = omega arith
idle_window from duty (Ready c d e) idle = absurd (both_ways true idle refl)

-- Where no row down to row i has a job, its slack is not below 0.
pub idle_spares :
    (w : Work) → admitted w.table ≡ true → Numbers w
    → (i : ℕ) → i < length w.table → ((k : ℕ) → k ≤ i → ready_at w.rows k ≡ false) → Spares w.clock w i 0
idle_spares w ok numbers i inside idle =
    let none =
    demand_none w.table i inside w.clock w.clock w.rows numbers.same_length
    (λ k h. idle_needs_none w.clock (duty_at w.table k) (row_at w.rows k) (idle k h)) in
    let open-yet = idle_window w.clock (duty_at w.table i) (row_at w.rows i) (idle i (omega arith)) in
    met_spares w ok numbers i inside 0 w.clock (open-yet, omega arith)

-- A fresh machine keeps its invariant.
pub fresh_keeps : (table : List Duty) → admitted table ≡ true → Keeps (fresh_work table)
fresh_keeps table ok =
    let w : Work = fresh_work table in
    let same : length w.rows ≡ length table = length-replicate (length table) (Idle 0) in
    let at : (i : ℕ) → i < length table → row_at w.rows i ≡ Idle 0 =
    λ i inside. get_or-replicate (length table) i (Idle 0) no_row inside in
    let numbers : Numbers w = record { same_length = same; each = λ i inside. rw (at i inside) (omega arith) } in
    record {
      table_admitted = ok;
      work_kept =
          kept_from 0 w
          (record {
            numbers = numbers;
            spares = λ i inside. idle_spares w ok numbers i inside (λ k h. ap is_ready (at k (omega arith)));
          });
    }
