-- Over a queue that answers each call on it, each call on the machine has an answer and a next state. The queue is given by what it can
-- mean after each past alone, so that no program is spoken of. What the work does is settled by the machine.
use Rattle.std.proofs.Common.{◌≡◌, ℕ, ◌<◌, ◌≤◌, Bool, true, false, leb, List, [], ◌∷◌, ◌++◌, Some, None, Ok, Err, Option, Result, sym, refl, subst, ⊎_elim}
use Rattle.std.proofs.lemmas.Bool.{and_parts, cases_lt}
use Rattle.model.proofs.Histories.{stays_on}
use Rattle.model.specs.Histories.{Choice, History, by_call, by_put, by_spend, by_take, by_turn}
use Rattle.model.specs.Machine.{Work, State, Step, RowCalled, ServedOrLeft, SparedOrRun, after_call, call_refusal, duty_tick, duty_turn, errand_due, first_ready, last_clock, later, plain_answer, slack_of, tick_answer, units_answer, waits}
use Rattle.model.specs.Queues.{Meaning, Put, Sound, Spend, Take, names_right}
use Rattle.model.specs.Refusals.{refusal}
use Rattle.model.specs.declared.calls.Answer.{Answer}
use Rattle.model.specs.declared.calls.Answer.TheVariants.{Slack as SlackIs}
use Rattle.model.specs.declared.calls.Call.{Call}
use Rattle.model.specs.declared.calls.Call.TheVariants.{Release, Done, Request, Withdraw, Slack, Tick}
use Rattle.model.specs.declared.calls.Who.{Who}
use Rattle.model.specs.declared.calls.Who.TheVariants.{Nobody, Duty as ForDuty, Errand as ForErrand}
use Rattle.model.specs.declared.errands.Errand.{Errand}
use Rattle.model.specs.declared.refusals.Refusal.{Refusal}
use Rattle.model.specs.declared.refusals.Refusal.TheVariants.{ClockEnded}
use Rattle.model.specs.declared.rows.RowCall.{RowCall}
use Rattle.model.specs.declared.rows.RowCall.TheVariants.{Release as RowRelease, Done as RowDone}
use Rattle.queue.proofs.RefusalCodes.{call_refusal_is}

-- Queues that can mean m after a past where `arises past m`: they answer each call, and mean then what they can mean after the past with
-- what the call added.
pub record AnswersCalls (arises : History → Meaning → Type 0) (choice : Choice) : Type 0 where
  pub sound : (past : History) (m : Meaning) → arises past m → Sound m
  pub chooses : (past : History) (m : Meaning) → arises past m → m.named ≡ choice past
  pub puts :
      (past : History) (m : Meaning) (e : Errand) → arises past m
      → (r : Result (Unit {0}) Refusal) × (m' : Meaning) × Put m e r m' × arises (past ++ by_put e r) m'
  pub spends :
      (past : History) (m : Meaning) → arises past m
      → (r : Option ℕ) × (m' : Meaning) × Spend m r m' × arises (past ++ by_spend r) m'
  pub takes :
      (past : History) (m : Meaning) (n : ℕ) → arises past m
      → (r : Result ℕ Refusal) × (m' : Meaning) × Take m n r m' × arises (past ++ by_take n r) m'

-- What a request, a withdraw and a tick of a duty add to a history.
put_added : (e : Errand) (r : Result (Unit {0}) Refusal) → by_put e r ≡ by_call (Request e) (plain_answer r)
put_added e (Ok x) = refl
put_added e (Err why) = refl

take_added : (n : ℕ) (r : Result ℕ Refusal) → by_take n r ≡ by_call (Withdraw n) (units_answer r)
take_added n (Ok units) = refl
take_added n (Err why) = refl

duty_added : (o : Option ℕ) → by_turn (elim o as (λ x. Who) [ None ↦ Nobody | Some i ↦ ForDuty i ]) ≡ []
duty_added None = refl
duty_added (Some i) = refl

-- A queue in which some wait names one.
names_some : (es : List Errand) (named : Option ℕ) (places : ℕ) → names_right es named ≡ true
    → waits (record { waiting = es; named = named; places = places }) ≡ true → named ≡ None → ⊥
names_some [] named places right waiting none = cc
names_some (e ∷ es) None places right waiting none = cc
names_some (e ∷ es) (Some n) places right waiting none = cc

module _ (arises : History → Meaning → Type 0) (choice : Choice) (answering : AnswersCalls arises choice) where
  -- The answer of a call and the next state, in which the queue has what the call added behind its past.
  pub record Next (past : History) (s : State) (call : Call) : Type 0 where
    pub answer : Answer
    pub next : State
    pub one : Step s call answer next
    pub arose : arises (past ++ by_call call answer) next.queue

  row_called : (w : Work) (i : ℕ) (call : RowCall) (r : Result (Unit {0}) Refusal)
      → call_refusal w i call ≡ refusal r → (w' : Work) × RowCalled w i call r w'
  row_called w i call (Ok x) told = (after_call w i call, (told, refl))
  row_called w i call (Err why) told = (w, (told, refl))

  -- What becomes of a tick, who has it, and what it leaves of the work and of the queue.
  record TurnFrom (past : History) (s : State) (due : Bool) : Type 0 where
    turn : Option Who
    who : Who
    work : Work
    queue : Meaning
    ran : SparedOrRun due s.work turn work
    served : ServedOrLeft turn s.queue who queue
    arose : arises (past ++ by_turn who) queue

  spent_on : (past : History) (s : State) (r : Option ℕ) (m' : Meaning) → (s.queue.named ≡ None → ⊥) → Spend s.queue r m'
      → arises (past ++ by_spend r) m' → TurnFrom past s true
  spent_on past s None m' some spend arose = absurd (some spend.0)
  spent_on past s (Some n) m' some spend arose =
      record {
        turn = None;
        who = ForErrand n;
        work = later s.work;
        queue = m';
        ran = (refl, refl);
        served = (n, refl, spend);
        arose = arose;
      }

  turn_from : (past : History) (s : State) → arises past s.queue → (due : Bool) → errand_due s.work (waits s.queue) ≡ due
      → TurnFrom past s due
  turn_from past s arose true due =
      let (r, m', spend, arose') = answering.spends past s.queue arose in
      let waiting = (and_parts (waits s.queue) (leb 1 (slack_of s.work)) due).0 in
      let right = (answering.sound past s.queue arose).names in
      spent_on past s r m' (names_some s.queue.waiting s.queue.named s.queue.places right waiting) spend arose'
  turn_from past s arose false due =
      record {
        turn = Some (duty_turn s.work);
        who = duty_turn s.work;
        work = later (duty_tick s.work);
        queue = s.queue;
        ran = (refl, refl);
        served = (refl, refl);
        arose =
            subst (λ (added : History). arises (past ++ added) s.queue) (sym (duty_added (first_ready s.work.rows)))
            (stays_on arises s.queue s.queue refl past arose);
      }

  ticked : (past : History) (s : State) → arises past s.queue → Next past s Tick
  ticked past s arose =
      ⊎_elim
      (λ (room : s.work.clock < last_clock).
      let t = turn_from past s arose (errand_due s.work (waits s.queue)) refl in
      let had : ℕ × Who = (slack_of s.work, t.who) in
      record {
        answer = tick_answer (Ok had);
        next = record { work = t.work; queue = t.queue };
        one = (Ok had, refl, (t.turn, (room, refl, t.ran), t.served));
        arose = t.arose;
      })
      (λ (ended : last_clock ≤ s.work.clock).
      record {
        answer = tick_answer (Err ClockEnded);
        next = s;
        one = (Err ClockEnded, refl, ((ended, refl, refl), refl));
        arose = stays_on arises s.queue s.queue refl past arose;
      })
      (cases_lt s.work.clock last_clock)

  -- Every call has one.
  pub next_of : (past : History) (s : State) → arises past s.queue → (call : Call) → Next past s call
  next_of past s arose (Release i) =
      let (r, told) = call_refusal_is s.work i RowRelease in
      let (w', one) = row_called s.work i RowRelease r told in
      record {
        answer = plain_answer r;
        next = record { work = w'; queue = s.queue };
        one = (r, refl, one, refl);
        arose = stays_on arises s.queue s.queue refl past arose;
      }
  next_of past s arose (Done i) =
      let (r, told) = call_refusal_is s.work i RowDone in
      let (w', one) = row_called s.work i RowDone r told in
      record {
        answer = plain_answer r;
        next = record { work = w'; queue = s.queue };
        one = (r, refl, one, refl);
        arose = stays_on arises s.queue s.queue refl past arose;
      }
  next_of past s arose (Request e) =
      let (r, m', put, arose') = answering.puts past s.queue e arose in
      record {
        answer = plain_answer r;
        next = record { work = s.work; queue = m' };
        one = (r, refl, (put, refl));
        arose = subst (λ (added : History). arises (past ++ added) m') (put_added e r) arose';
      }
  next_of past s arose (Withdraw n) =
      let (r, m', take, arose') = answering.takes past s.queue n arose in
      record {
        answer = units_answer r;
        next = record { work = s.work; queue = m' };
        one = (r, refl, (take, refl));
        arose = subst (λ (added : History). arises (past ++ added) m') (take_added n r) arose';
      }
  next_of past s arose Slack =
      record {
        answer = SlackIs (slack_of s.work);
        next = s;
        one = (refl, refl);
        arose = stays_on arises s.queue s.queue refl past arose;
      }
  next_of past s arose Tick = ticked past s arose
