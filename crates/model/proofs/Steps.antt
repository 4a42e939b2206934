-- Steps and runs: what a step does to the work, and so that every one keeps the invariant and the table, and that the
-- clock counts the ticks that were accepted.
use Rattle.std.proofs.Common.{◌≡◌, ℕ, ◌+◌, ◌≤◌, Bool, true, false, nat_le, [], ◌∷◌, ◌++◌, Ok, Err, Option, Result, refl, ap, ◌∙◌, arith}
use Rattle.std.proofs.lemmas.Bool.{and_parts, leb-true}
use Rattle.model.specs.Kept.{Keeps}
use Rattle.model.specs.Machine.{Work, State, Step, RowCalled, SparedOrRun, after_call, call_refusal, duty_tick, errand_due, later, slack_of, waits}
use Rattle.model.specs.Runs.{Run, stay, step, Trace, of_tick, anyone, ticks}
use Rattle.model.specs.declared.calls.Answer.{Answer}
use Rattle.model.specs.declared.calls.Call.{Call}
use Rattle.model.specs.declared.calls.Call.TheVariants.{Release, Done, Request, Withdraw, Slack, Tick}
use Rattle.model.specs.declared.calls.Who.{Who}
use Rattle.model.specs.declared.refusals.Refusal.{Refusal}
use Rattle.model.specs.declared.rows.RowCall.{RowCall}
use Rattle.model.specs.declared.rows.RowCall.TheVariants.{Release as RowRelease, Done as RowDone}
use Rattle.model.proofs.RowCalls.{call_keeps}
use Rattle.model.proofs.Ticks.{duty_tick_keeps, spare_tick_keeps}

-- What a step does to the work: it leaves it, an accepted call to a row changes that row, or the clock rises, by a
-- tick that is to spare or goes to the duties.
data WorkStep (w : Work) (ticked : ℕ) (w' : Work) : Type 0 where
  left : w' ≡ w → ticked ≡ 0 → WorkStep w ticked w'
  called : (i : ℕ) (call : RowCall) → call_refusal w i call ≡ [] → w' ≡ after_call w i call → ticked ≡ 0 → WorkStep w ticked w'
  spared : 1 ≤ slack_of w → w' ≡ later w → ticked ≡ 1 → WorkStep w ticked w'
  worked : w' ≡ later (duty_tick w) → ticked ≡ 1 → WorkStep w ticked w'

row_step :
    {X : Type 0} (w : Work) (i : ℕ) (call : RowCall) (r : Result X Refusal) (w' : Work) (ticked : ℕ)
    → RowCalled w i call r w' → ticked ≡ 0 → WorkStep w ticked w'
row_step w i call (Ok x) w' ticked (accepted, then) none = called i call accepted then none
row_step w i call (Err why) w' ticked (refused, same) none = left same none

tick_step :
    (due : Bool) (w : Work) (errand_waits : Bool) (turn : Option Who) (w' : Work) (ticked : ℕ)
    → errand_due w errand_waits ≡ due → SparedOrRun due w turn w' → ticked ≡ 1 → WorkStep w ticked w'
tick_step true w errand_waits turn w' ticked due (none, then) one =
    spared (leb-true 1 (slack_of w) (and_parts errand_waits (nat_le 1 (slack_of w)) due).1) then one
tick_step false w errand_waits turn w' ticked due (had, then) one = worked then one

work_step :
    (s : State) (call : Call) (answer : Answer) (s' : State)
    → Step s call answer s' → WorkStep s.work (of_tick anyone answer) s'.work
work_step s (Release i) answer s' (Ok x, answered, one, queue-stays) = row_step s.work i RowRelease (Ok x) s'.work _ one (rw answered refl)
work_step s (Release i) answer s' (Err why, answered, one, queue-stays) = row_step {X = Unit {0}} s.work i RowRelease (Err why) s'.work _ one (rw answered refl)
work_step s (Done i) answer s' (Ok x, answered, one, queue-stays) = row_step s.work i RowDone (Ok x) s'.work _ one (rw answered refl)
work_step s (Done i) answer s' (Err why, answered, one, queue-stays) = row_step {X = Unit {0}} s.work i RowDone (Err why) s'.work _ one (rw answered refl)
work_step s (Request e) answer s' (Ok x, answered, (put, same)) = left same (rw answered refl)
work_step s (Request e) answer s' (Err why, answered, (put, same)) = left same (rw answered refl)
work_step s (Withdraw n) answer s' (Ok units, answered, (taken, same)) = left same (rw answered refl)
work_step s (Withdraw n) answer s' (Err why, answered, (taken, same)) = left same (rw answered refl)
work_step s Slack answer s' (answered, same) = left (ap (λ (t : State). t.work) same) (rw answered refl)
work_step s Tick answer s' (Ok pair, answered, (turn, (room, slack-is, used), served)) =
    tick_step (errand_due s.work (waits s.queue)) s.work (waits s.queue) turn s'.work _ refl used (rw answered refl)
work_step s Tick answer s' (Err why, answered, ((ended, refused, same), queue-stays)) = left same (rw answered refl)

-- Each keeps the invariant,
work_keeps : (w : Work) (ticked : ℕ) (w' : Work) → WorkStep w ticked w' → Keeps w → Keeps w'
work_keeps w ticked w' (left same none) keeps = rw same keeps
work_keeps w ticked w' (called i call accepted then none) keeps = rw then (call_keeps w i call keeps accepted)
work_keeps w ticked w' (spared slack then one) keeps = rw then (spare_tick_keeps w keeps slack)
work_keeps w ticked w' (worked then one) keeps = rw then (duty_tick_keeps w keeps)

-- leaves the table, and raises the clock by the tick if it is one.
work_table : (w : Work) (ticked : ℕ) (w' : Work) → WorkStep w ticked w' → w'.table ≡ w.table
work_table w ticked w' (left same none) = rw same refl
work_table w ticked w' (called i call accepted then none) = rw then refl
work_table w ticked w' (spared slack then one) = rw then refl
work_table w ticked w' (worked then one) = rw then refl

work_clock : (w : Work) (ticked : ℕ) (w' : Work) → WorkStep w ticked w' → w'.clock ≡ w.clock + ticked
work_clock w ticked w' (left same none) = rw same (omega arith)
work_clock w ticked w' (called i call accepted then none) = rw then (omega arith)
work_clock w ticked w' (spared slack then one) = rw then (omega arith)
work_clock w ticked w' (worked then one) = rw then (omega arith)

module _ (s : State) (call : Call) (answer : Answer) (s' : State) (one : Step s call answer s') where
  pub step_keeps : Keeps s.work → Keeps s'.work
  step_keeps = work_keeps s.work (of_tick anyone answer) s'.work (work_step s call answer s' one)

  pub step_table : s'.work.table ≡ s.work.table
  step_table = work_table s.work (of_tick anyone answer) s'.work (work_step s call answer s' one)

  pub step_clock : s'.work.clock ≡ s.work.clock + of_tick anyone answer
  step_clock = work_clock s.work (of_tick anyone answer) s'.work (work_step s call answer s' one)

-- So does every run.
pub run_keeps : (s : State) (trace : Trace) (end : State) → Run s trace end → Keeps s.work → Keeps end.work
run_keeps s trace end stay keeps = keeps
run_keeps s trace end (step {s' = s'} {call = call} {answer = answer} {rest = rest} one more) keeps =
    run_keeps s' rest end more (step_keeps s call answer s' one keeps)

pub run_table : (s : State) (trace : Trace) (end : State) → Run s trace end → end.work.table ≡ s.work.table
run_table s trace end stay = refl
run_table s trace end (step {s' = s'} {call = call} {answer = answer} {rest = rest} one more) =
    run_table s' rest end more ∙ step_table s call answer s' one

pub run_clock : (s : State) (trace : Trace) (end : State) → Run s trace end → end.work.clock ≡ s.work.clock + ticks trace
run_clock s trace end stay = omega arith
run_clock s trace end (step {s' = s'} {call = call} {answer = answer} {rest = rest} one more) =
    omega (arith, step_clock s call answer s' one, run_clock s' rest end more)

-- A run over two lists of calls, one after the other, is a run over each.
pub run_split :
    (s : State) (before after : Trace) (end : State)
    → Run s (before ++ after) end → (mid : State) × Run s before mid × Run mid after end
run_split s [] after end run = (s, stay, run)
run_split s ((call, answer) ∷ before) after end (step {s' = s'} one more) =
    let (mid, first, last) = run_split s' before after end more in
    (mid, step one first, last)

-- A run over a call and more begins with its step.
pub run_first :
    (s : State) (call : Call) (answer : Answer) (rest : Trace) (end : State)
    → Run s ((call, answer) ∷ rest) end → (s' : State) × Step s call answer s' × Run s' rest end
run_first s call answer rest end (step {s' = s'} one more) = (s', one, more)
