-- The worked-out run, step by step, and the future that misses.
use Rattle.std.proofs.Common.{◌≡◌, ℕ, suc, true, ◌==◌, [], ◌∷◌, Some, None, Ok, Err, sym, refl, ap, ◌∙◌, arith}
use Rattle.std.proofs.lemmas.Bool.{ne_eqb, cond-false}
use Rattle.model.specs.Demand.{left_of, row_at}
use Rattle.model.specs.Machine.{Work, State, Step, fresh}
use Rattle.model.specs.MachineExamples.{MachineExamples, errand_7, empty_queue, holding, worked_out, worked_out_end, without_slack, clock_alone}
use Rattle.model.specs.Queues.{Meaning, Sound, Changes, look, distinct, one_less}
use Rattle.model.specs.Runs.{Run, stay, step}
use Rattle.model.specs.Table.{ceil}
use Rattle.model.specs.Worked.{three}
use Rattle.model.specs.declared.calls.Answer.{Answer}
use Rattle.model.specs.declared.calls.Call.TheVariants.{Tick}
use Rattle.model.specs.declared.calls.Who.TheVariants.{Duty as ForDuty, Errand as ForErrand}
use Rattle.model.specs.declared.refusals.Refusal.TheVariants.{NoSuchRow, TooSoon, RowIdle, NotWaiting}
use Rattle.model.specs.declared.rows.Row.{Row}
use Rattle.model.specs.declared.rows.Row.TheVariants.{Idle, Ready}

-- What the queue does in the run: errand 7 is put, loses a unit, and is taken; no other number ever waits.
empty_sound : Sound empty_queue
empty_sound = record { each_once = refl; few = omega arith; names = refl }

holding_sound : (units : ℕ) → distinct (holding units).waiting ≡ true → Sound (holding units)
holding_sound units within = record { each_once = within; few = omega arith; names = refl }

no_other : (units k : ℕ) → (k ≡ 7 → ⊥) → look (holding units).waiting k ≡ None
no_other units k other = cond-false (7 == k) (Some (errand_7 units)) None (ne_eqb 7 k (λ e. other (omega arith)))

put_7 : Changes empty_queue 7 (Some (errand_7 3)) (holding 3)
put_7 = record { here = refl; others = no_other 3; places_stay = refl; sound = holding_sound 3 refl }

spend_7 :
    (units : ℕ)
    → distinct (holding units).waiting ≡ true
    → one_less (errand_7 (suc units)) ≡ Some (errand_7 units)
    → Changes (holding (suc units)) 7 (one_less (errand_7 (suc units))) (holding units)
spend_7 units within less =
    record {
      here = sym less;
      others = λ k other. no_other units k other ∙ sym (no_other (suc units) k other);
      places_stay = refl;
      sound = holding_sound units within;
    }

take_7 : Changes (holding 1) 7 None empty_queue
take_7 = record { here = refl; others = λ k other. sym (no_other 1 k other); places_stay = refl; sound = empty_sound }

-- The states on the way.
abbrev at : ℕ → Row → Row → Row → Meaning → State
at clock row-0 row-1 row-2 queue =
    record { work = record { table = three; clock = clock; rows = row-0 ∷ row-1 ∷ row-2 ∷ [] }; queue = queue }

run_worked_out : Run (fresh three empty_queue) worked_out worked_out_end
unfolding ceil
run_worked_out =
    step {s' = at 0 (Ready 1 4 4) (Idle 0) (Idle 0) empty_queue} (Ok tt, refl, (refl, refl), refl)
    (step {s' = at 0 (Ready 1 4 4) (Ready 2 6 6) (Idle 0) empty_queue} (Ok tt, refl, (refl, refl), refl)
    (step {s' = at 0 (Ready 1 4 4) (Ready 2 6 6) (Ready 3 12 12) empty_queue} (Ok tt, refl, (refl, refl), refl)
    (step (Err NoSuchRow, refl, (refl, refl), refl)
    (step {s' = at 0 (Ready 1 4 4) (Ready 2 6 6) (Ready 3 12 12) (holding 3)} (Ok tt, refl, ((refl, put_7), refl))
    (step (refl, refl)
    (step {s' = at 1 (Ready 1 4 4) (Ready 2 6 6) (Ready 3 12 12) (holding 2)}
    (Ok (2, ForErrand 7), refl, (None, (omega arith, refl, (refl, refl)), (7, refl, (refl, (errand_7 3, refl, spend_7 2 refl refl)))))
    (step {s' = at 2 (Ready 1 4 4) (Ready 2 6 6) (Ready 3 12 12) (holding 1)}
    (Ok (1, ForErrand 7), refl, (None, (omega arith, refl, (refl, refl)), (7, refl, (refl, (errand_7 2, refl, spend_7 1 refl refl)))))
    (step {s' = at 3 (Idle 4) (Ready 2 6 6) (Ready 3 12 12) (holding 1)} (Ok (0, ForDuty 0), refl, (Some (ForDuty 0), (omega arith, refl, (refl, refl)), (refl, refl)))
    (step (Err TooSoon, refl, (refl, refl), refl)
    (step (Err RowIdle, refl, (refl, refl), refl)
    (step {s' = at 4 (Idle 4) (Ready 1 6 6) (Ready 3 12 12) (holding 1)} (Ok (0, ForDuty 1), refl, (Some (ForDuty 1), (omega arith, refl, (refl, refl)), (refl, refl)))
    (step {s' = at 4 (Ready 1 8 8) (Ready 1 6 6) (Ready 3 12 12) (holding 1)} (Ok tt, refl, (refl, refl), refl)
    (step {s' = at 5 (Idle 8) (Ready 1 6 6) (Ready 3 12 12) (holding 1)} (Ok (0, ForDuty 0), refl, (Some (ForDuty 0), (omega arith, refl, (refl, refl)), (refl, refl)))
    (step {s' = at 5 (Idle 8) (Ready 1 6 6) (Ready 3 12 12) empty_queue} (Ok 1, refl, ((errand_7 1, refl, refl, take_7), refl))
    (step (Err NotWaiting, refl, ((refl, refl, refl), refl))
    (step (Ok tt, refl, (refl, refl), refl) stay))))))))))))))))

-- Whatever a tick answers there, it changes more than the clock: row 0 has it.
no_idle_tick : (answer : Answer) → Step without_slack Tick answer (clock_alone without_slack) → ⊥
unfolding ceil
no_idle_tick answer (Ok pair, answered, (turn, (room, slack-is, (had, then)), served)) =
    let z : ◌≡◌ {A = ℕ} 1 0 = ap (λ (w : Work). left_of (row_at w.rows 0)) then in omega arith
no_idle_tick answer (Err why, answered, ((ended, refused, same), queue-stays)) = omega arith

pub machine_examples : MachineExamples
unfolding ceil
machine_examples =
    record {
      table_admitted = refl;
      run_worked_out = run_worked_out;
      no_slack = refl;
      missing_lawful = (refl, tt);
      missing_misses = refl;
      no_idle_tick = no_idle_tick;
    }
