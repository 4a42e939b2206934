-- What the kept invariant says of the rows at the clock: no job has reached its deadline, no row's slack is below 0,
-- and no window is long.
use Rattle.std.proofs.Common.{◌≡◌, ℕ, zero, suc, ◌+◌, ◌-◌, ◌<◌, ◌≤◌, true, false, ◌==◌, List, [], ◌∷◌, length, sym, refl, ap, ⊎_elim, arith}
use Rattle.std.proofs.lemmas.List.{get_or_past}
use Rattle.std.proofs.lemmas.Bool.{cases_Bool, cases_lt, both_ways, or_cases, or_left, or_right, eqb-true, eq-eqb}
use Rattle.model.specs.Demand.{row_at, no_row}
use Rattle.model.specs.Futures.{overdue}
use Rattle.model.specs.Kept.{Keeps, kept, SlackNotBelow0}
use Rattle.model.specs.Machine.{Work}
use Rattle.model.specs.Slack.{window, window_end}
use Rattle.model.specs.Table.{duty_at}
use Rattle.model.specs.declared.duties.Duty.{Duty}
use Rattle.model.specs.declared.rows.Row.{Row}
use Rattle.model.specs.declared.rows.Row.TheVariants.{Idle, Ready}
use Rattle.model.proofs.Admitted.{Limits, admitted_limits}
use Rattle.model.proofs.Invariant.{RowNumbers, kept_gives}
use Rattle.model.proofs.RowCalls.{spares_open}
use Rattle.model.proofs.Ticks.{releases_over}

-- A row that has a job is there.
pub ready_inside : (rows : List Row) (i c d e : ℕ) → row_at rows i ≡ Ready c d e → i < length rows
ready_inside rows i c d e at =
    ⊎_elim
    (λ there. there)
    (λ past. absurd (let none = get_or_past rows i no_row past in let z : ◌≡◌ {A = ℕ} 0 1 = cc in omega arith))
    (cases_lt i (length rows))

-- The clock is overdue only where it is the deadline of some job,
pub overdue_row : (clock : ℕ) (rows : List Row) → overdue clock rows ≡ true → (i c e : ℕ) × (row_at rows i ≡ Ready c clock e)
overdue_row clock [] over = absurd (both_ways false refl over)
overdue_row clock (Idle e ∷ rows) over = let (i, c, e', at) = overdue_row clock rows over in (suc i, c, e', at)
overdue_row clock (Ready c d e ∷ rows) over =
    ⊎_elim
    (λ here. (0, c, e, ap (λ x. Ready c x e) (sym (eqb-true clock d here))))
    (λ below. let (i, c', e', at) = overdue_row clock rows below in (suc i, c', e', at))
    (or_cases (clock == d) (overdue clock rows) over)

-- and wherever it is.
pub row_overdue : (clock : ℕ) (rows : List Row) (i c e : ℕ) → row_at rows i ≡ Ready c clock e → overdue clock rows ≡ true
row_overdue clock [] i c e at = absurd (let z : ◌≡◌ {A = ℕ} 0 1 = cc in omega arith)
row_overdue clock (Idle e ∷ rows) zero c e' at = absurd (let z : ◌≡◌ {A = ℕ} 0 1 = cc in omega arith)
row_overdue clock (Idle e ∷ rows) (suc i) c e' at = row_overdue clock rows i c e' at
row_overdue clock (Ready c d e ∷ rows) zero c' e' at = or_left (clock == d) (overdue clock rows) (eq-eqb clock d (cc))
row_overdue clock (Ready c d e ∷ rows) (suc i) c' e' at = or_right (clock == d) (overdue clock rows) (row_overdue clock rows i c' e' at)

-- The clock has not reached the deadline of any job,
pub kept_before_due : (w : Work) → kept w ≡ true → (i c d e : ℕ) → row_at w.rows i ≡ Ready c d e → w.clock < d
kept_before_due w keeps i c d e at =
    let keeping = kept_gives 0 w keeps in
    let there = ready_inside w.rows i c d e at in
    let ahead = spares_open w i 0 (keeping.spares i (omega (arith, keeping.numbers.same_length))) in
    rw at at ahead

-- so none is overdue,
pub kept_not_overdue : (w : Work) → kept w ≡ true → overdue w.clock w.rows ≡ false
kept_not_overdue w keeps =
    ⊎_elim
    (λ over. let (i, c, e, at) = overdue_row w.clock w.rows over in
    absurd (omega (arith, kept_before_due w keeps i c w.clock e at)))
    (λ none. none)
    (cases_Bool (overdue w.clock w.rows))

-- and no row's slack is below 0: some number of ticks within its window covers its demand.
pub kept_slack : (w : Work) → kept w ≡ true → (i : ℕ) → i < length w.table → SlackNotBelow0 w i
kept_slack w keeps i inside =
    let keeping = kept_gives 0 w keeps in
    let (x, ahead, (before_end, met)) = releases_over w keeping.numbers i 0 inside (keeping.spares i inside) in
    let at : w.clock + (x - w.clock) ≡ x = omega arith in
    (x - w.clock, omega arith, rw at (omega arith))

-- A window ends at most 8,192 ticks ahead: the next release lies within a separation, and its deadline within another.
row_window :
    (clock : ℕ) (duty : Duty) (row : Row)
    → Limits duty → RowNumbers clock duty row → window_end (clock + 1) duty row ≤ clock + 8192
row_window clock duty (Idle e) limits numbers = omega (arith, limits)
row_window clock duty (Ready c d e) limits numbers = omega (arith, limits, numbers)

pub kept_window : (w : Work) → Keeps w → (i : ℕ) → i < length w.table → window (w.clock + 1) w.clock w.table w.rows i ≤ 8192
kept_window w keeps i inside =
    let numbers = (kept_gives 0 w keeps.work_kept).numbers.each i inside in
    omega
    (arith, row_window w.clock (duty_at w.table i) (row_at w.rows i) (admitted_limits w.table keeps.table_admitted i inside) numbers)
