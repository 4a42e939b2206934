-- Deadlines, read off the list of calls and answers: a job is followed from its release on, and as long as it has
-- neither had all its ticks nor been called done its row has it, so that the clock lies before its deadline.
use Rattle.std.proofs.Common.{◌≡◌, ℕ, pred, ◌+◌, ◌<◌, ◌≤◌, Bool, true, false, cond, ◌&&◌, ◌==◌, nat_le, ◌⊎◌, List, [], ◌∷◌, ◌++◌, length, Some, None, Ok, Err, Option, sym, refl, ap, ◌∙◌, inl, inr, ⊎_elim, arith}
use Rattle.std.proofs.lemmas.List.{get_or-set_same, get_or-set_other}
use Rattle.std.proofs.lemmas.Bool.{cases_Bool, cases_eq, and_left, and_right, eq-eqb, ne_eqb, leb-true, cond-true, cond-false}
use Rattle.model.specs.Demand.{row_at, no_row}
use Rattle.model.specs.Kept.{Keeps}
use Rattle.model.specs.Machine.{Work, State, Step, SparedOrRun, ServedOrLeft, released, row_after, after_call, call_refusal, duty_tick, duty_turn, errand_due, waits}
use Rattle.model.specs.Promise.{Deadlines}
use Rattle.model.specs.Queues.{Meaning}
use Rattle.model.specs.Runs.{Run, stay, step, Trace, was_accepted, of_tick, row_had, is_release, is_done, ticks, row_ticks, dones, until_release}
use Rattle.model.specs.Table.{duty_at}
use Rattle.model.specs.declared.calls.Answer.{Answer}
use Rattle.model.specs.declared.calls.Answer.TheVariants.{Accepted, Ticked}
use Rattle.model.specs.declared.calls.Call.{Call}
use Rattle.model.specs.declared.calls.Call.TheVariants.{Release, Done, Request, Withdraw, Slack, Tick}
use Rattle.model.specs.declared.calls.Who.{Who}
use Rattle.model.specs.declared.calls.Who.TheVariants.{Duty as ForDuty}
use Rattle.model.specs.declared.duties.Duty.{Duty}
use Rattle.model.specs.declared.rows.Row.{Row}
use Rattle.model.specs.declared.rows.Row.TheVariants.{Idle, Ready}
use Rattle.model.specs.declared.rows.RowCall.{RowCall}
use Rattle.model.specs.declared.rows.RowCall.TheVariants.{Release as RowRelease, Done as RowDone, Tick as RowTick}
use Rattle.model.proofs.Admitted.{admitted_limits}
use Rattle.model.proofs.Invariant.{kept_gives}
use Rattle.model.proofs.Kept.{ready_inside, kept_before_due}
use Rattle.model.proofs.RowCalls.{call_accepted, release_allowed}
use Rattle.model.proofs.Steps.{step_clock, step_keeps, run_keeps, run_split, run_first, run_table}
use Rattle.model.proofs.Ticks.{turn_cases}

-- Row j after a call to it.
abbrev row_then : Work → ℕ → RowCall → Row
row_then w j call = row_after (duty_at w.table j) w.clock (row_at w.rows j) call

-- What follows is about row i's job with c units left, deadline d and next release e.
module _ (i c d e : ℕ) where
  -- What a call with its answer makes of the job: it had all its ticks, or was called done, or the row still has it
  -- with no fewer units left than those not had.
  abbrev JobThen : Call → Answer → List Row → Type 0
  JobThen call answer rows =
      (c ≤ of_tick (row_had i) answer)
      ⊎ ((1 ≤ cond (is_done i call && was_accepted answer) 1 0)
      ⊎ ((c' : ℕ) × (row_at rows i ≡ Ready c' d e) × (c ≤ of_tick (row_had i) answer + c')))

  -- The job is followed through one call: its row is not released again.
  record Followed (call : Call) (answer : Answer) (rows : List Row) : Type 0 where
    not_released : (is_release i call && was_accepted answer) ≡ false
    job_then : JobThen call answer rows

  -- A call that is no accepted release of row i and leaves the row as it is.
  left_alone :
      (call : Call) (answer : Answer) (rows : List Row)
      → (is_release i call && was_accepted answer) ≡ false → row_at rows i ≡ Ready c d e → Followed call answer rows
  left_alone call answer rows other at = record { not_released = other; job_then = inr (inr (c, at, omega arith)) }

  module _ (w : Work) (keeps : Keeps w) (at : row_at w.rows i ≡ Ready c d e) where
    -- An accepted release is of another row.
    released_other : (j : ℕ) → call_refusal w j RowRelease ≡ [] → j ≡ i → ⊥
    released_other j accepted same =
        let (there, allowed) = call_accepted w j RowRelease accepted in
        let keeping = kept_gives 0 w keeps.work_kept in
        let within : i < length w.table = omega (arith, keeping.numbers.same_length) in
        let early = release_allowed w.clock e (rw (same, at) at allowed) in
        let before = kept_before_due w keeps.work_kept i c d e at in
        let numbers = rw at at (keeping.numbers.each i within) in
        omega (arith, admitted_limits w.table keeps.table_admitted i within, numbers)

    -- A row other than the one called is as it was.
    other_row : (j : ℕ) (call : RowCall) → (j ≡ i → ⊥) → row_at (after_call w j call).rows i ≡ Ready c d e
    other_row j call other = get_or-set_other w.rows j i (row_then w j call) no_row (λ same. other (sym same)) ∙ at

    -- Row i itself has the tick.
    followed_work : (slack : ℕ) → Followed Tick (Ticked slack (ForDuty i)) (after_call w i RowTick).rows
    followed_work slack =
        let had : row_had i (ForDuty i) ≡ 1 = cond-true (i == i) 1 0 (eq-eqb i i refl) in
        let now : row_at (after_call w i RowTick).rows i ≡ row_after (duty_at w.table i) w.clock (Ready c d e) RowTick =
        get_or-set_same w.rows i (row_then w i RowTick) no_row (ready_inside w.rows i c d e at)
        ∙ ap (λ row. row_after (duty_at w.table i) w.clock row RowTick) at in
        record {
          not_released = refl;
          job_then =
              ⊎_elim
              (λ last. inl (omega (arith, leb-true c 1 last)))
              (λ more. inr (inr (pred c, now ∙ cond-false (nat_le c 1) (Idle e) (Ready (pred c) d e) more, omega arith)))
              (cases_Bool (nat_le c 1));
        }

    -- A tick that goes as if no errand waited.
    followed_duty_tick : (slack : ℕ) → Followed Tick (Ticked slack (duty_turn w)) (duty_tick w).rows
    followed_duty_tick slack =
        ⊎_elim
        (λ (none, idle). rw (none, duty_turn) (left_alone Tick _ _ refl at))
        (λ (k, found, first).
        rw (found, duty_turn)
        (⊎_elim
        (λ (same : k ≡ i). rw same (followed_work slack))
        (λ (other : k ≡ i → ⊥). left_alone Tick (Ticked slack (ForDuty k)) (after_call w k RowTick).rows refl (other_row k RowTick other))
        (cases_eq k i)))
        (turn_cases w.rows)

    followed_tick :
        (due : Bool) (turn : Option Who) (m m' : Meaning) (slack : ℕ) (who : Who) (w' : Work)
        → SparedOrRun due w turn w' → ServedOrLeft turn m who m' → Followed Tick (Ticked slack who) w'.rows
    followed_tick true turn m m' slack who w' (spared, then) served =
        left_alone Tick (Ticked slack who) w'.rows refl (rw then at)
    followed_tick false None m m' slack who w' (worked, then) served = absurd (let z : ◌≡◌ {A = ℕ} 0 1 = cc in omega arith)
    followed_tick false (Some who') m m' slack who w' (worked, then) (had, queue-stays) =
        let same : who ≡ duty_turn w = cc in
        rw (same, then) (followed_duty_tick slack)

  -- The job is followed through any call.
  followed :
      (s : State) (call : Call) (answer : Answer) (s' : State)
      → Step s call answer s' → Keeps s.work → row_at s.work.rows i ≡ Ready c d e → Followed call answer s'.work.rows
  followed s (Release j) answer s' (Ok x, answered, (accepted, then), queue-stays) keeps at =
      let other = released_other s.work keeps at j accepted in
      left_alone (Release j) answer s'.work.rows
      (and_left (j == i) (was_accepted answer) (ne_eqb j i other))
      (rw then (other_row s.work keeps at j RowRelease other))
  followed s (Release j) answer s' (Err why, answered, (refused, same), queue-stays) keeps at =
      left_alone (Release j) answer s'.work.rows (and_right (j == i) (was_accepted answer) (rw answered)) (rw same at)
  followed s (Done j) answer s' (Ok x, answered, (accepted, then), queue-stays) keeps at =
      ⊎_elim
      (λ same. record {
        not_released = refl;
        job_then = inr (inl (rw (answered, eq-eqb j i same) (omega arith)));
      })
      (λ other. left_alone (Done j) answer s'.work.rows refl (rw then (other_row s.work keeps at j RowDone other)))
      (cases_eq j i)
  followed s (Done j) answer s' (Err why, answered, (refused, same), queue-stays) keeps at =
      left_alone (Done j) answer s'.work.rows refl (rw same at)
  followed s (Request errand) answer s' (r, answered, (put, same)) keeps at =
      left_alone (Request errand) answer s'.work.rows refl (rw same at)
  followed s (Withdraw n) answer s' (r, answered, (taken, same)) keeps at =
      left_alone (Withdraw n) answer s'.work.rows refl (rw same at)
  followed s Slack answer s' (answered, same) keeps at = left_alone Slack answer s'.work.rows refl (rw same at)
  followed s Tick answer s' (Ok pair, answered, (turn, (room, slack-is, used), served)) keeps at =
      rw answered
      (followed_tick s.work keeps at (errand_due s.work (waits s.queue)) turn s.queue s'.queue pair.0 pair.1 s'.work used served)
  followed s Tick answer s' (Err why, answered, ((ended, refused, same), queue-stays)) keeps at =
      left_alone Tick answer s'.work.rows refl (rw same at)

-- A job with c units left whose deadline the clock reaches within a run has its c ticks in it, or is called done,
-- before its row is released again.
pub job_finishes :
    (s : State) (trace : Trace) (end : State) (i c d e : ℕ)
    → Run s trace end
    → Keeps s.work
    → row_at s.work.rows i ≡ Ready c d e
    → d ≤ s.work.clock + ticks trace
    → (c ≤ row_ticks i (until_release i trace)) ⊎ (1 ≤ dones i (until_release i trace))
job_finishes s trace end i c d e stay keeps at reached =
    absurd (omega (arith, kept_before_due s.work keeps.work_kept i c d e at))
job_finishes s trace end i c d e (step {s' = s'} {call = call} {answer = answer} {rest = rest} one more) keeps at reached =
    let following = followed i c d e s call answer s' one keeps at in
    rw (following.not_released, until_release)
    (⊎_elim
    (λ had. inl (omega arith))
    (⊎_elim
    (λ done. inr (omega arith))
    (λ (c', at', fewer).
    ⊎_elim
    (λ had. inl (omega arith))
    (λ done. inr (omega arith))
    (job_finishes s' rest end i c' d e more (step_keeps s call answer s' one keeps) at'
    (omega (arith, step_clock s call answer s' one)))))
    following.job_then)

-- After an accepted release of row i the row has the job.
released_now :
    (s s' : State) (i : ℕ)
    → Step s (Release i) Accepted s'
    → (s'.work.clock ≡ s.work.clock) × (row_at s'.work.rows i ≡ released (duty_at s.work.table i) s.work.clock)
released_now s s' i (Ok x, answered, (accepted, then), queue-stays) = (
  rw then refl,
  rw then
      (get_or-set_same s.work.rows i (row_then s.work i RowRelease) no_row (call_accepted s.work i RowRelease accepted).0),
)
released_now s s' i (Err why, answered, refused, queue-stays) = absurd (let z : ◌≡◌ {A = ℕ} 0 1 = cc in omega arith)

pub deadlines_kept :
    (start : State) (trace : Trace) (end : State) → Keeps start.work → Run start trace end → Deadlines start trace
deadlines_kept start trace end keeps run before during after i is reached =
    let (s, first, rest) = run_split start before ((Release i, Accepted) ∷ (during ++ after)) end (rw is at run) in
    let (s', release, following) = run_first s (Release i) Accepted (during ++ after) end rest in
    let (mid, job, last) = run_split s' during after end following in
    let (clock-stays, at) = released_now s s' i release in
    let duty = duty_at start.work.table i in
    let same : duty_at s.work.table i ≡ duty = ap (λ (table : List Duty). duty_at table i) (run_table start before s first) in
    job_finishes s' during mid i duty.cost (s.work.clock + duty.deadline) (s.work.clock + duty.separation) job
    (step_keeps s (Release i) Accepted s' release (run_keeps start before s first keeps))
    (rw same at at) (omega arith)
