-- What a tick takes from what each row has to spare. Any tick takes at most one, since the clock is raised; a tick of
-- work gives one to the row that has it and to each below, so that it takes nothing from them; and a row with no job
-- down to it never has less than nothing to spare. So a tick that goes to the duties keeps the invariant always, and
-- one that goes to an errand where the table's slack is at least 1.
use Rattle.std.proofs.Common.{◌≡◌, ℕ, ◌+◌, ◌<◌, ◌≤◌, true, false, ◌⊎◌, List, [], length, Some, None, Option, refl, ap, ◌∙◌, inl, inr, ⊎_elim, arith}
use Rattle.std.proofs.lemmas.List.{get_or-set_same, get_or-set_other}
use Rattle.std.proofs.lemmas.Bool.{cases_lt, both_ways, cond-true, lt-ltb}
use Rattle.model.specs.Demand.{need, row_at, no_row}
use Rattle.model.specs.Kept.{Keeps}
use Rattle.model.specs.Machine.{Work, after_call, call_refusal, duty_tick, first_ready, is_ready, later, ready_at, row_after, row_refusal, slack_of}
use Rattle.model.specs.Slack.{window, window_end, spare}
use Rattle.model.specs.Table.{admitted, duty_at}
use Rattle.model.specs.declared.duties.Duty.{Duty}
use Rattle.model.specs.declared.rows.Row.{Row}
use Rattle.model.specs.declared.rows.Row.TheVariants.{Idle, Ready}
use Rattle.model.specs.declared.rows.RowCall.TheVariants.{Tick}
use Rattle.model.proofs.Demand.{need_later, need_run}
use Rattle.model.proofs.Extremes.{greatest_taken, slack_least}
use Rattle.model.proofs.Invariant.{RowNumbers, Numbers, Spares, Keeping, end_at, kept_gives, kept_from}
use Rattle.model.proofs.RowCalls.{NeedsNoMore, call_needs, call_numbers, set_need, set_end, spares_open}
use Rattle.model.proofs.Searches.{IsLeast, least_found, none_passes}
use Rattle.model.proofs.Spare.{met_spares, idle_spares}
use Rattle.model.proofs.Sums.{need_at, demand_le, demand_less}

-- Whose turn it is: no row has a job, or row k has one and no row above it.
pub turn_cases :
    (rows : List Row)
    → ((first_ready rows ≡ None) × ((k : ℕ) → k < length rows → ready_at rows k ≡ false))
    ⊎ ((k : ℕ) × (first_ready rows ≡ Some k) × IsLeast (ready_at rows) 0 (length rows) k)
turn_cases rows = go (first_ready rows) refl
  where
    go :
        (o : Option ℕ) → first_ready rows ≡ o
        → ((first_ready rows ≡ None) × ((k : ℕ) → k < length rows → ready_at rows k ≡ false))
        ⊎ ((k : ℕ) × (first_ready rows ≡ Some k) × IsLeast (ready_at rows) 0 (length rows) k)
    go None e = inl (e, λ k short. none_passes (ready_at rows) 0 (length rows) e k (omega arith) (omega arith))
    go (Some k) e = inr (k, e, least_found (ready_at rows) 0 (length rows) k e)

-- One clock later a row's numbers are still kept and its window ends no sooner.
row_numbers_later : (clock : ℕ) (duty : Duty) (row : Row) → RowNumbers clock duty row → RowNumbers (clock + 1) duty row
row_numbers_later clock duty (Idle e) numbers = omega arith
row_numbers_later clock duty (Ready c d e) numbers = omega (arith, numbers)

pub numbers_later : (w : Work) → Numbers w → Numbers (later w)
numbers_later w numbers =
    record {
      same_length = numbers.same_length;
      each = λ i short. row_numbers_later w.clock (duty_at w.table i) (row_at w.rows i) (numbers.each i short);
    }

pub window_later : (clock : ℕ) (duty : Duty) (row : Row) → window_end clock duty row ≤ window_end (clock + 1) duty row
window_later clock duty (Idle e) = omega arith
window_later clock duty (Ready c d e) = omega arith

module _ (w : Work) (numbers : Numbers w) (i r : ℕ) (inside : i < length w.table) where
  -- Once the releases for the clock are over, a row has at least what it had to spare before.
  pub releases_over : Spares w.clock w i r → Spares (w.clock + 1) w i r
  releases_over (x, ahead, (before_end, met)) =
      let no_more =
      demand_le w.table i inside w.clock (w.clock + 1) x w.rows w.rows numbers.same_length numbers.same_length
      (λ k h. need_later w.clock (w.clock + 1) (duty_at w.table k) (row_at w.rows k) x (omega arith)) in
      (x, ahead, (omega (arith, window_later w.clock (duty_at w.table i) (row_at w.rows i)), omega arith))

  -- A tick that changes no row takes one of it.
  pub later_spares : admitted w.table ≡ true → Spares (w.clock + 1) w i (r + 1) → Spares (w.clock + 1) (later w) i r
  later_spares ok (x, ahead, (before_end, met)) =
      met_spares (later w) ok (numbers_later w numbers) i inside r x (before_end, omega arith)

-- No state of a row refuses it a tick of work; a ready row then needs at least one less.
pub run_accepted : (clock : ℕ) (row : Row) → row_refusal clock row Tick ≡ []
run_accepted clock (Idle e) = refl
run_accepted clock (Ready c d e) = refl

run_needs_less :
    (clock : ℕ) (duty : Duty) (row : Row) (x : ℕ)
    → is_ready row ≡ true → RowNumbers clock duty row → need clock duty (row_after duty clock row Tick) x + 1 ≤ need clock duty row x
run_needs_less clock duty (Idle e) x ready numbers = absurd (both_ways false refl ready)
run_needs_less clock duty (Ready c d e) x ready numbers = need_run clock clock duty c d e x numbers.0

-- Row k has the tick, its window is open, and no row above it has a job.
module _
    (w : Work) (ok : admitted w.table ≡ true) (numbers : Numbers w) (k : ℕ)
    (ahead : w.clock < end_at w.clock w k) (first : IsLeast (ready_at w.rows) 0 (length w.rows) k) where
  abbrev row_then : Row
  row_then = row_after (duty_at w.table k) w.clock (row_at w.rows k) Tick

  there : k < length w.rows
  there = omega (arith, first.below)

  pub run_allowed : call_refusal w k Tick ≡ []
  run_allowed =
      cond-true _ _ _ (lt-ltb k (length w.rows) there) ∙ run_accepted w.clock (row_at w.rows k)

  pub run_needs : NeedsNoMore w.clock (duty_at w.table k) (row_at w.rows k) row_then
  run_needs = call_needs w ok numbers k Tick ahead run_allowed

  pub run_numbers : Numbers (after_call w k Tick)
  run_numbers = call_numbers w ok numbers k Tick ahead run_allowed

  -- No row above it has a job after the tick either.
  idle_above : (j : ℕ) → j < k → ready_at (after_call w k Tick).rows j ≡ false
  idle_above j above =
      ap is_ready (get_or-set_other w.rows k j row_then no_row (λ e. omega arith)) ∙ first.first j (omega arith) above

  -- Row k needs one less,
  one_less : (x : ℕ) → need_at w.clock w.table (after_call w k Tick).rows x k + 1 ≤ need_at w.clock w.table w.rows x k
  one_less x =
      rw (get_or-set_same w.rows k row_then no_row there)
      (run_needs_less w.clock (duty_at w.table k) (row_at w.rows k) x first.passed
      (numbers.each k (omega (arith, there, numbers.same_length))))

  -- so it and each row below it have one more to spare,
  run_gains : (i r : ℕ) → i < length w.table → k ≤ i → Spares w.clock w i r → Spares w.clock (after_call w k Tick) i (r + 1)
  run_gains i r inside below (x, before, (before_end, met)) =
      let less =
      demand_less w.table i inside w.clock w.clock x w.rows (after_call w k Tick).rows numbers.same_length run_numbers.same_length
      k below (λ j h. set_need w numbers k row_then there run_needs x before j) (one_less x) in
      (x, before, (omega (arith, set_end w numbers k row_then there run_needs i), omega arith))

  -- and the tick takes nothing from them.
  pub run_spares :
      (i r : ℕ) → i < length w.table → k ≤ i → Spares w.clock w i r → Spares (w.clock + 1) (later (after_call w k Tick)) i r
  run_spares i r inside below spares =
      later_spares (after_call w k Tick) run_numbers i r inside ok
      (releases_over (after_call w k Tick) run_numbers i (r + 1) inside (run_gains i r inside below spares))

  run_keeping : Keeping 0 w → Keeping 0 (later (after_call w k Tick))
  run_keeping keeping =
      let after = later (after_call w k Tick) in
      let numbers_then = numbers_later (after_call w k Tick) run_numbers in
      record {
        numbers = numbers_then;
        spares = λ i inside.
            ⊎_elim
            (λ above. idle_spares after ok numbers_then i inside (λ j h. idle_above j (omega arith)))
            (λ below. run_spares i 0 inside below (keeping.spares i inside))
            (cases_lt i k);
      }

-- No row has a job.
idle_keeping :
    (w : Work) → admitted w.table ≡ true → Keeping 0 w
    → ((k : ℕ) → k < length w.rows → ready_at w.rows k ≡ false) → Keeping 0 (later w)
idle_keeping w ok keeping idle =
    let numbers = numbers_later w keeping.numbers in
    record {
      numbers = numbers;
      spares = λ i inside.
          idle_spares (later w) ok numbers i inside (λ k h. idle k (omega (arith, numbers.same_length)));
    }

-- A tick that goes to the duties keeps the invariant.
pub duty_tick_keeps : (w : Work) → Keeps w → Keeps (later (duty_tick w))
duty_tick_keeps w keeps =
    let ok = keeps.table_admitted in
    let keeping = kept_gives 0 w keeps.work_kept in
    ⊎_elim
    (λ (none, idle).
    rw none (record { table_admitted = ok; work_kept = kept_from 0 (later w) (idle_keeping w ok keeping idle) }))
    (λ (k, found, first).
    let within : k < length w.table = omega (arith, first.below, keeping.numbers.same_length) in
    let ahead = spares_open w k 0 (keeping.spares k within) in
    rw found
    (record {
      table_admitted = ok;
      work_kept = kept_from 0 (later (after_call w k Tick)) (run_keeping w ok keeping.numbers k ahead first keeping);
    }))
    (turn_cases w.rows)

-- What the table's slack says of each row, once the releases for the clock are over.
slack_gives :
    (w : Work) (i r : ℕ) → i < length w.table → 1 ≤ r → r ≤ slack_of w → Spares (w.clock + 1) w i r
slack_gives w i r inside some enough =
    let (ticks, within, taken) =
    greatest_taken (spare (w.clock + 1) w.clock w.table w.rows i) (window (w.clock + 1) w.clock w.table w.rows i) in
    let row-too = slack_least (w.clock + 1) w.clock w.table w.rows i inside in
    (w.clock + ticks, omega arith, (omega arith, omega arith))

-- Where the table's slack is at least 1, a tick that leaves the rows as they are keeps the invariant too.
pub spare_tick_keeps : (w : Work) → Keeps w → 1 ≤ slack_of w → Keeps (later w)
spare_tick_keeps w keeps slack =
    let ok = keeps.table_admitted in
    let numbers = (kept_gives 0 w keeps.work_kept).numbers in
    record {
      table_admitted = ok;
      work_kept =
          kept_from 0 (later w)
          (record {
            numbers = numbers_later w numbers;
            spares = λ i inside. later_spares w numbers i 0 inside ok (slack_gives w i 1 inside (omega arith) slack);
          });
    }
