-- What one row needs up to a clock, before and after each thing that can happen to it.
use Rattle.std.proofs.Common.{◌≡◌, ℕ, pred, ◌+◌, ◌-◌, ◌*◌, ◌<◌, ◌≤◌, max, nat_le, mul-le-mul_left, arith}
use Rattle.std.proofs.lemmas.Bool.{cond_both, leb-true}
use Rattle.model.specs.Demand.{need}
use Rattle.model.specs.Machine.{released, row_after}
use Rattle.model.specs.Table.{ceil}
use Rattle.model.specs.declared.duties.Duty.{Duty}
use Rattle.model.specs.declared.rows.Row.{Row}
use Rattle.model.specs.declared.rows.Row.TheVariants.{Idle, Ready}
use Rattle.model.specs.declared.rows.RowCall.TheVariants.{Tick}
use Rattle.model.proofs.Ceil.{ceil_none, ceil_mono, ceil_more}

-- The jobs that can come before a clock ask for at least as much where they may come earlier or the clock is later.
pub jobs_le : (duty : Duty) (v w : ℕ) → v ≤ w → duty.cost * ceil v duty.separation ≤ duty.cost * ceil w duty.separation
jobs_le duty v w h = mul-le-mul_left duty.cost (ceil_mono v w duty.separation h)

-- A row needs no more where its idle rows may be released later.
pub need_later : (from later : ℕ) (duty : Duty) (row : Row) (x : ℕ) → from ≤ later → need later duty row x ≤ need from duty row x
need_later from later duty (Idle e) x h = omega (arith, jobs_le duty (x - max e later) (x - max e from) (omega arith))
need_later from later duty (Ready c d e) x h = omega arith

-- An idle row needs nothing up to a clock at which it cannot have been released yet.
pub need_idle_none : (from : ℕ) (duty : Duty) (e x : ℕ) → x ≤ from → need from duty (Idle e) x ≡ 0
need_idle_none from duty e x h = rw (ceil_none (x - max e from) duty.separation (omega arith)) (omega arith)

-- An idle row needs at most a job for each separation that begins by the clock.
pub need_idle_busy : (from : ℕ) (duty : Duty) (e x : ℕ) → need from duty (Idle e) x ≤ duty.cost * ceil (x - from) duty.separation
need_idle_busy from duty e x = omega (arith, jobs_le duty (x - max e from) (x - from) (omega arith))

-- A release changes no need up to a later clock.
pub need_released :
    (clock : ℕ) (duty : Duty) (e x : ℕ)
    → e ≤ clock → clock < x → 1 ≤ duty.separation → need clock duty (released duty clock) x ≡ need clock duty (Idle e) x
need_released clock duty e x allowed later pos =
    let now : max e clock ≡ clock = omega arith in
    let next : x - (clock + duty.separation) ≡ (x - clock) - duty.separation = omega arith in
    rw (now, next, ceil_more (x - clock) duty.separation (omega arith) pos) (omega arith)

-- The end of a job only lowers what its row needs.
pub need_done : (from : ℕ) (duty : Duty) (c d e x : ℕ) → need from duty (Idle e) x ≤ need from duty (Ready c d e) x
need_done from duty c d e x = omega (arith, jobs_le duty (x - max e from) (x - e) (omega arith))

-- A tick of work lowers what its row needs by at least one,
pub need_run :
    (from clock : ℕ) (duty : Duty) (c d e x : ℕ)
    → 1 ≤ c → need from duty (row_after duty clock (Ready c d e) Tick) x + 1 ≤ need from duty (Ready c d e) x
need_run from clock duty c d e x some =
    let jobs = duty.cost * ceil (x - e) duty.separation in
    cond_both (nat_le c 1) (Idle e) (Ready (pred c) d e) (λ row. need from duty row x + 1 ≤ need from duty (Ready c d e) x)
    (λ last. omega (arith, need_done from duty 0 d e x))
    (λ more. let fact : pred c + jobs + 1 ≤ c + jobs = omega arith in fact)

-- and by at most one where its next release lies ahead.
pub need_run_at_most :
    (from clock : ℕ) (duty : Duty) (c d e x : ℕ)
    → from ≤ e → need from duty (Ready c d e) x ≤ need from duty (row_after duty clock (Ready c d e) Tick) x + 1
need_run_at_most from clock duty c d e x ahead =
    let same : max e from ≡ e = omega arith in
    let jobs = duty.cost * ceil (x - e) duty.separation in
    cond_both (nat_le c 1) (Idle e) (Ready (pred c) d e) (λ row. need from duty (Ready c d e) x ≤ need from duty row x + 1)
    (λ last. let fact : c + jobs ≤ 0 + jobs + 1 = omega (arith, leb-true c 1 last) in rw same fact)
    (λ more. let fact : c + jobs ≤ pred c + jobs + 1 = omega arith in fact)
