-- A tick that goes to the duties: what it leaves of the work, before the clock moves on.
use Rattle.std.proofs.Common.{◌≡◌, ℕ, ◌<◌, [], length, get_or, Some, None, Ok, Err, Result, sym, ◌∙◌, arith, subst}
use Rattle.model.proofs.Admitted.{admitted_says}
use Rattle.model.proofs.Invariant.{kept_gives}
use Rattle.model.proofs.RefusalCodes.{refusal_code_some}
use Rattle.model.proofs.Searches.{least_found}
use Rattle.model.proofs.Ticks.{duty_tick_keeps, run_accepted}
use Rattle.model.specs.Demand.{no_row}
use Rattle.model.specs.Kept.{Keeps}
use Rattle.model.specs.Machine.{RowCalled, Work, after_call, call_refusal, duty_tick, first_ready, later, ready_at}
use Rattle.model.specs.declared.refusals.Refusal.{Refusal}
use Rattle.model.specs.declared.rows.RowCall.TheVariants.{Tick}
use Rattle.table.specs.Settings.{table_of}
use Rattle.workload.proofs.RowCalls.{keeps_in, row_answers}
use Rattle.workload.specs.Workloads.{work_in}
use Rattle.workload.specs.declared.workloads.Workload.{Workload}

-- Such work is kept at the next clock.
pub ran_keeps : (w : Workload) (then : Work) → then ≡ duty_tick (work_in w) → Keeps (later then)
ran_keeps w then ran = subst (λ work. Keeps (later work)) (sym ran) (duty_tick_keeps (work_in w) (keeps_in w))

module _ (w : Workload) where
  -- A tick that nobody has leaves the rows.
  pub nobody_ran : first_ready (work_in w).rows ≡ None → work_in w ≡ duty_tick (work_in w)
  nobody_ran e = sym (rw (e, duty_tick))

  module _ (i : ℕ) (e : first_ready (work_in w).rows ≡ Some i) where
    pub ready_inside : i < length (table_of w.setting)
    ready_inside =
        let same = (kept_gives 0 (work_in w) w.keeps).numbers.same_length in
        omega (arith, same, (least_found (ready_at (work_in w).rows) 0 (length (work_in w).rows) i e).below)

    pub ready_few : i < 16
    ready_few = omega (arith, ready_inside, (admitted_says (table_of w.setting) w.setting.admits).few)

    -- A ready row takes a tick,
    accepted : call_refusal (work_in w) i Tick ≡ []
    accepted =
        row_answers w i Tick ready_inside
        ∙ run_accepted w.clock (get_or w.rows i no_row)

    -- and has had it once it was called to run.
    pub row_ran : {X : Type 0} (r : Result X Refusal) (then : Work) → RowCalled (work_in w) i Tick r then → then ≡ duty_tick (work_in w)
    row_ran (Ok x) then (free, is) =
        let tick : duty_tick (work_in w) ≡ after_call (work_in w) i Tick = rw (e, duty_tick) in
        is ∙ sym tick
    row_ran (Err why) then (barred, same) = let (n, ns, some) = refusal_code_some why in absurd (cc (accepted, barred, some))
