-- A table without slack cannot spare a tick: after it there is a lawful future that misses. It releases every row as
-- soon as it may be and then ticks, again and again. Through it the demand of the row that has no slack stays above
-- what the ticks up to the end of its window can give, until the clock is there and the row still has its job.
use Rattle.std.proofs.Common.{◌≡◌, ℕ, zero, suc, ◌+◌, ◌-◌, ◌<◌, ◌≤◌, max, true, false, cond, nat_lt, nat_le, List, [], ◌∷◌, length, slice_set, refl, ap, ◌∙◌, ⊎_elim, arith}
use Rattle.std.proofs.lemmas.List.{get_or-set_same, get_or-set_other}
use Rattle.std.proofs.lemmas.Bool.{cases_Bool, cases_lt, cases_eq, both_ways, or_right, lt-ltb, le-ltb, cond-true, cond-false}
use Rattle.model.specs.Demand.{need, demand_at, row_at, no_row}
use Rattle.model.specs.Futures.{Move, release, tick, overdue, Lawful, misses, Safe}
use Rattle.model.specs.Kept.{Keeps}
use Rattle.model.specs.Machine.{Work, after_call, call_refusal, duty_tick, is_ready, later, ready_at, released, row_after, row_refusal, slack_of, with_rows}
use Rattle.model.specs.Slack.{window, window_end, spare, row_slack}
use Rattle.model.specs.Table.{admitted, duty_at}
use Rattle.model.specs.declared.duties.Duty.{Duty}
use Rattle.model.specs.declared.rows.Row.{Row}
use Rattle.model.specs.declared.rows.Row.TheVariants.{Idle, Ready}
use Rattle.model.specs.declared.rows.RowCall.TheVariants.{Release, Tick}
use Rattle.model.proofs.Admitted.{Limits, admitted_limits}
use Rattle.model.proofs.Demand.{need_idle_none, need_released, need_run_at_most}
use Rattle.model.proofs.Extremes.{greatest_above, slackless_row}
use Rattle.model.proofs.Invariant.{RowNumbers, Numbers, end_at, kept_gives}
use Rattle.model.proofs.Kept.{row_overdue}
use Rattle.model.proofs.RowCalls.{at_set, call_numbers, set_end, spares_open}
use Rattle.model.proofs.Searches.{IsLeast}
use Rattle.model.proofs.Spare.{idle_needs_none}
use Rattle.model.proofs.Sums.{need_at, demand_none, demand_le, demand_one_less}
use Rattle.model.proofs.Ticks.{turn_cases, numbers_later, window_later, run_needs, run_numbers}

-- A lawful future that misses,
abbrev FutureMisses : Work → Type 0
FutureMisses w = (moves : List Move) × Lawful w moves × (misses w moves ≡ true)

-- with a lawful move before it.
release_first : (w : Work) (k : ℕ) → call_refusal w k Release ≡ [] → FutureMisses (after_call w k Release) → FutureMisses w
release_first w k accepted (moves, lawful, missed) =
    (release k ∷ moves, (accepted, lawful), or_right (overdue w.clock w.rows) (misses (after_call w k Release) moves) missed)

tick_first : (w : Work) → FutureMisses (later (duty_tick w)) → FutureMisses w
tick_first w (moves, lawful, missed) =
    (tick ∷ moves, lawful, or_right (overdue w.clock w.rows) (misses (later (duty_tick w)) moves) missed)

-- The row cannot be released at the clock: it has a job, or its earliest release lies ahead.
abbrev NotReleasable : ℕ → Row → Type 0
NotReleasable clock (Idle e) = clock < e
NotReleasable clock (Ready c d e) = Unit {0}

-- So a tick that leaves it as it is changes neither its need nor its window.
need_stays : (clock : ℕ) (duty : Duty) (row : Row) (x : ℕ) → NotReleasable clock row → need (clock + 1) duty row x ≡ need clock duty row x
need_stays clock duty (Idle e) x ahead =
    let same : max e (clock + 1) ≡ max e clock = omega arith in rw same
need_stays clock duty (Ready c d e) x ahead = refl

window_stays : (clock : ℕ) (duty : Duty) (row : Row) → NotReleasable clock row → window_end (clock + 1) duty row ≡ window_end clock duty row
window_stays clock duty (Idle e) ahead = omega arith
window_stays clock duty (Ready c d e) ahead = refl

-- A release leaves the window as it was, and at least the need.
release_needs :
    (clock : ℕ) (duty : Duty) (e x : ℕ)
    → e ≤ clock → clock ≤ x → 1 ≤ duty.separation → need clock duty (Idle e) x ≤ need clock duty (released duty clock) x
release_needs clock duty e x allowed later pos =
    ⊎_elim
    (λ ahead. omega (arith, need_released clock duty e x allowed ahead pos))
    (λ now. omega (arith, need_idle_none clock duty e x now))
    (cases_lt clock x)

-- A window that the clock has not passed, of a row whose job is not overdue, is open.
still_open :
    (clock : ℕ) (duty : Duty) (row : Row)
    → Limits duty → ((c e : ℕ) → row ≡ Ready c clock e → ⊥) → clock ≤ window_end clock duty row → clock < window_end clock duty row
still_open clock duty (Idle e) limits timely passed = omega (arith, limits)
still_open clock duty (Ready c d e) limits timely passed =
    ⊎_elim
    (λ before. before)
    (λ over. absurd (timely c e (ap (λ x. Ready c x e) (omega arith))))
    (cases_lt clock d)

-- A tick of work takes at most one from the need of a row whose window is open, and leaves its window where the row
-- still has its job.
work_needs :
    (clock : ℕ) (duty : Duty) (row : Row) (x : ℕ)
    → Limits duty
    → RowNumbers clock duty row
    → is_ready row ≡ true
    → clock < window_end clock duty row
    → need clock duty row x ≤ need (clock + 1) duty (row_after duty clock row Tick) x + 1
work_needs clock duty (Idle e) x limits numbers ready ahead = absurd (both_ways false refl ready)
work_needs clock duty (Ready c d e) x limits numbers ready ahead =
    need_run_at_most (clock + 1) clock duty c d e x (omega (arith, limits, numbers))

work_window :
    (clock : ℕ) (duty : Duty) (row : Row)
    → is_ready (row_after duty clock row Tick) ≡ true
    → window_end (clock + 1) duty (row_after duty clock row Tick) ≡ window_end clock duty row
work_window clock duty (Idle e) ready = absurd (both_ways false refl ready)
work_window clock duty (Ready c d e) ready =
    ⊎_elim
    (λ (last : nat_le c 1 ≡ true). absurd (both_ways false refl (rw (last, cond) at ready)))
    (λ (more : nat_le c 1 ≡ false). rw (more, cond))
    (cases_Bool (nat_le c 1))

module _ (i end : ℕ) where
  -- Row i is overloaded: its window ends at the clock `end`, and up to each clock till then its demand is more than
  -- the ticks can give. No other window has ended.
  record Overloaded (w : Work) : Type 0 where
    table_admitted : admitted w.table ≡ true
    inside : i < length w.table
    numbers : Numbers w
    in_time : (k : ℕ) → k < length w.table → w.clock ≤ end_at w.clock w k
    ends : end_at w.clock w i ≡ end
    short : (x : ℕ) → w.clock ≤ x → x ≤ end → x < demand_at w.clock w.table w.rows i x + w.clock

  -- A release of row k, which is idle and may be released.
  module _
      (w : Work) (k e : ℕ)
      (over : Overloaded w) (within : k < length w.table) (at : row_at w.rows k ≡ Idle e) (allowed : e ≤ w.clock) where
    abbrev released_row : Row
    released_row = row_after (duty_at w.table k) w.clock (row_at w.rows k) Release

    released_there : k < length w.rows
    released_there = omega (arith, within, over.numbers.same_length)

    release_ahead : w.clock < end_at w.clock w k
    release_ahead = rw at (omega (arith, admitted_limits w.table over.table_admitted k within))

    release_accepted : call_refusal w k Release ≡ []
    release_accepted =
        let allowed : row_refusal w.clock (row_at w.rows k) Release ≡ [] =
        rw at (cond-false (nat_lt w.clock e) (5 ∷ []) [] (le-ltb w.clock e allowed)) in
        cond-true (nat_lt k (length w.rows)) (row_refusal w.clock (row_at w.rows k) Release) (1 ∷ []) (lt-ltb k (length w.rows) released_there)
        ∙ allowed

    release_more :
        (x : ℕ) → w.clock ≤ x → (j : ℕ) → need_at w.clock w.table w.rows x j ≤ need_at w.clock w.table (slice_set w.rows k released_row) x j
    release_more x later =
        at_set (λ j r. need_at w.clock w.table w.rows x j ≤ need w.clock (duty_at w.table j) r x) w.rows k released_row released_there
        (rw at (release_needs w.clock (duty_at w.table k) e x allowed later (omega (arith, admitted_limits w.table over.table_admitted k within))))
        (λ j other. omega arith)

    release_end : (j : ℕ) → end_at w.clock (after_call w k Release) j ≡ end_at w.clock w j
    release_end =
        at_set (λ j r. window_end w.clock (duty_at w.table j) r ≡ end_at w.clock w j) w.rows k released_row released_there
        (rw at (omega (arith, allowed))) (λ j other. refl)

    release_overloaded : Overloaded (after_call w k Release)
    release_overloaded =
        let numbers = call_numbers w over.table_admitted over.numbers k Release release_ahead release_accepted in
        record {
          table_admitted = over.table_admitted;
          inside = over.inside;
          numbers = numbers;
          in_time = λ j h. omega (arith, over.in_time j h, release_end j);
          ends = release_end i ∙ over.ends;
          short = λ x from to.
              let more =
              demand_le w.table i over.inside w.clock w.clock x (after_call w k Release).rows w.rows
              numbers.same_length over.numbers.same_length (λ j h. release_more x from j) in
              omega (arith, over.short x from to);
        }

  -- Row k is released if it may be, and no other row changes.
  abbrev ReleasedIfAllowed : Work → ℕ → Type 0
  ReleasedIfAllowed w k =
      (rows : List Row)
      × Overloaded (with_rows w rows)
      × NotReleasable w.clock (row_at rows k)
      × ((j : ℕ) → (j ≡ k → ⊥) → row_at rows j ≡ row_at w.rows j)
      × (FutureMisses (with_rows w rows) → FutureMisses w)

  release_row : (w : Work) (k : ℕ) → Overloaded w → k < length w.table → ReleasedIfAllowed w k
  release_row w k over within = go (row_at w.rows k) refl
    where
      go : (row : Row) → row_at w.rows k ≡ row → ReleasedIfAllowed w k
      go (Idle e) at =
          let row = row_after (duty_at w.table k) w.clock (row_at w.rows k) Release in
          ⊎_elim
          (λ ahead. (w.rows, over, rw at ahead, λ j other. refl, λ future. future))
          (λ allowed. (
            slice_set w.rows k row,
            release_overloaded w k e over within at allowed,
            rw (get_or-set_same w.rows k row no_row (omega (arith, over.numbers.same_length))) tt,
            λ j other. get_or-set_other w.rows k j row no_row other,
            release_first w k (release_accepted w k e over within at allowed),
          ))
          (cases_lt w.clock e)
      go (Ready c d e) at = (w.rows, over, rw at tt, λ j other. refl, λ future. future)

  -- The first m rows are released if they may be.
  release_rows :
      (w : Work) (m : ℕ)
      → m ≤ length w.table
      → Overloaded w
      → (rows : List Row)
      × Overloaded (with_rows w rows)
      × ((j : ℕ) → j < m → NotReleasable w.clock (row_at rows j))
      × (FutureMisses (with_rows w rows) → FutureMisses w)
  release_rows w zero few over = (w.rows, over, λ j h. absurd (omega arith), λ future. future)
  release_rows w (suc m) few over =
      let (before, so_far, released, back) = release_rows w m (omega arith) over in
      let (after, now, new, others, then) = release_row (with_rows w before) m so_far (omega arith) in (
        after,
        now,
        λ j h. ⊎_elim (λ same. rw same new) (λ other. rw (others j other) (released j (omega arith))) (cases_eq j m),
        λ future. back (then future),
      )

  -- Where nothing is overdue, all windows are open.
  windows_open :
      (w : Work) → Overloaded w → overdue w.clock w.rows ≡ false → (k : ℕ) → k < length w.table → w.clock < end_at w.clock w k
  windows_open w over timely k within =
      still_open w.clock (duty_at w.table k) (row_at w.rows k) (admitted_limits w.table over.table_admitted k within)
      (λ c e at. both_ways (overdue w.clock w.rows) timely (row_overdue w.clock w.rows k c e at)) (over.in_time k within)

  -- A tick, once every row was released that may be.
  module _
      (w : Work) (over : Overloaded w) (timely : overdue w.clock w.rows ≡ false)
      (released : (j : ℕ) → j < length w.table → NotReleasable w.clock (row_at w.rows j)) where
    -- No row has a job.
    idle_overloaded : Overloaded (later w)
    idle_overloaded =
        let same = over.numbers.same_length in
        record {
          table_admitted = over.table_admitted;
          inside = over.inside;
          numbers = numbers_later w over.numbers;
          in_time = λ k within.
              omega (arith, windows_open w over timely k within, window_later w.clock (duty_at w.table k) (row_at w.rows k));
          ends = window_stays w.clock (duty_at w.table i) (row_at w.rows i) (released i over.inside) ∙ over.ends;
          short = λ x from to.
              let as-much =
              demand_le w.table i over.inside (w.clock + 1) w.clock x w.rows w.rows same same
              (λ j h. omega (arith, need_stays w.clock (duty_at w.table j) (row_at w.rows j) x (released j (omega (arith, over.inside))))) in
              omega (arith, over.short x (omega arith) to);
        }

    -- Row k has the tick, and no row above it has a job.
    module _ (k : ℕ) (first : IsLeast (ready_at w.rows) 0 (length w.rows) k) (before : w.clock < end) where
      abbrev worked_row : Row
      worked_row = row_after (duty_at w.table k) w.clock (row_at w.rows k) Tick

      worked_there : k < length w.rows
      worked_there = omega (arith, first.below)

      worked_within : k < length w.table
      worked_within = omega (arith, worked_there, over.numbers.same_length)

      worked_ahead : w.clock < end_at w.clock w k
      worked_ahead = windows_open w over timely k worked_within

      worked_numbers : Numbers (later (after_call w k Tick))
      worked_numbers = numbers_later (after_call w k Tick) (run_numbers w over.table_admitted over.numbers k worked_ahead first)

      -- The demand of row i falls by at most one, so it is still more than the ticks can give.
      worked_short :
          (x : ℕ) → w.clock + 1 ≤ x → x ≤ end → x < demand_at (w.clock + 1) w.table (after_call w k Tick).rows i x + (w.clock + 1)
      worked_short x from to =
          let at_most_one =
          demand_one_less w.table i over.inside w.clock (w.clock + 1) x w.rows (after_call w k Tick).rows
          over.numbers.same_length worked_numbers.same_length k
          (λ j h other.
          rw (get_or-set_other w.rows k j worked_row no_row other)
          (omega (arith, need_stays w.clock (duty_at w.table j) (row_at w.rows j) x (released j (omega (arith, over.inside))))))
          (rw (get_or-set_same w.rows k worked_row no_row worked_there)
          (work_needs w.clock (duty_at w.table k) (row_at w.rows k) x
          (admitted_limits w.table over.table_admitted k worked_within) (over.numbers.each k worked_within) first.passed worked_ahead)) in
          omega (arith, over.short x (omega arith) to)

      -- So if row i had the tick, it was not its last: with no job down to row i there would be no demand.
      worked_on : k ≡ i → is_ready worked_row ≡ true
      worked_on same =
          ⊎_elim
          (λ ready. ready)
          (λ done.
          let idle : (j : ℕ) → j ≤ i → ready_at (after_call w k Tick).rows j ≡ false =
          at_set (λ j r. j ≤ i → is_ready r ≡ false) w.rows k worked_row worked_there
          (λ _. done) (λ j other h. first.first j (omega arith) (omega arith)) in
          let none =
          demand_none w.table i over.inside (w.clock + 1) (w.clock + 1) (after_call w k Tick).rows worked_numbers.same_length
          (λ j h. idle_needs_none (w.clock + 1) (duty_at w.table j) (row_at (after_call w k Tick).rows j) (idle j h)) in
          absurd (omega (arith, worked_short (w.clock + 1) (omega arith) (omega arith))))
          (cases_Bool (is_ready worked_row))

      worked_end : (j : ℕ) → j ≡ i → end_at (w.clock + 1) (after_call w k Tick) j ≡ end_at w.clock w j
      worked_end =
          at_set (λ j r. j ≡ i → window_end (w.clock + 1) (duty_at w.table j) r ≡ end_at w.clock w j) w.rows k worked_row worked_there
          (λ same. work_window w.clock (duty_at w.table k) (row_at w.rows k) (worked_on same))
          (λ j other same. window_stays w.clock (duty_at w.table j) (row_at w.rows j) (released j (omega (arith, over.inside))))

      run_overloaded : Overloaded (later (after_call w k Tick))
      run_overloaded =
          record {
            table_admitted = over.table_admitted;
            inside = over.inside;
            numbers = worked_numbers;
            in_time = λ j h.
                omega (
                  arith,
                  windows_open w over timely j h,
                  set_end w over.numbers k worked_row worked_there
                      (run_needs w over.table_admitted over.numbers k worked_ahead first) j,
                  window_later w.clock (duty_at w.table j) (row_at (after_call w k Tick).rows j),
                );
            ends = worked_end i refl ∙ over.ends;
            short = worked_short;
          }

    tick_overloaded : w.clock < end → Overloaded (later (duty_tick w))
    tick_overloaded before =
        ⊎_elim
        (λ (none, idle). rw none idle_overloaded)
        (λ (k, found, first). rw found (run_overloaded k first before))
        (turn_cases w.rows)

  -- With the end n ticks away the future misses, there if not before.
  overloaded_misses : (n : ℕ) (w : Work) → end ≡ w.clock + n → Overloaded w → FutureMisses w
  overloaded_misses zero w away over =
      ⊎_elim
      (λ missed. ([], tt, missed))
      (λ timely. absurd (omega (arith, windows_open w over timely i over.inside, over.ends)))
      (cases_Bool (overdue w.clock w.rows))
  overloaded_misses (suc n) w away over =
      let (rows, now, released, back) = release_rows w (length w.table) (omega arith) over in
      let then : Work = with_rows w rows in
      back
      (⊎_elim
      (λ missed. ([], tt, missed))
      (λ timely.
      tick_first then
      (overloaded_misses n (later (duty_tick then)) (omega arith) (tick_overloaded then now timely released (omega arith))))
      (cases_Bool (overdue w.clock rows)))

-- A row without slack is overloaded once a tick was spared.
slackless_overloaded :
    (w : Work) (i : ℕ)
    → Keeps w → i < length w.table → row_slack (w.clock + 1) w.clock w.table w.rows i < 1
    → Overloaded i (end_at (w.clock + 1) w i) (later w)
slackless_overloaded w i keeps inside slackless =
    let keeping = kept_gives 0 w keeps.work_kept in
    record {
      table_admitted = keeps.table_admitted;
      inside = inside;
      numbers = numbers_later w keeping.numbers;
      in_time = λ k within.
          omega (
            arith,
            spares_open w k 0 (keeping.spares k within),
            window_later w.clock (duty_at w.table k) (row_at w.rows k),
          );
      ends = refl;
      short = λ x from to.
          let at : w.clock + (x - w.clock) ≡ x = omega arith in
          let row-spare = spare (w.clock + 1) w.clock w.table w.rows i in
          let most = greatest_above row-spare (window (w.clock + 1) w.clock w.table w.rows i) (x - w.clock) (omega arith) in
          let none : row-spare (x - w.clock) < 1 = omega arith in
          omega (arith, rw at at none);
    }

-- Where a tick can be spared, the table's slack is at least 1.
pub safe_slack : (w : Work) → Keeps w → Safe (later w) → 1 ≤ slack_of w
safe_slack w keeps safe =
    ⊎_elim
    (λ none.
    let (i, inside, slackless) = slackless_row (w.clock + 1) w.clock w.table w.rows none in
    let end = end_at (w.clock + 1) w i in
    let over = slackless_overloaded w i keeps inside slackless in
    let (moves, lawful, missed) =
    overloaded_misses i end (end - (w.clock + 1)) (later w) (omega (arith, over.in_time i inside)) over in
    absurd (safe moves lawful missed))
    (λ some. some)
    (cases_lt (slack_of w) 1)
