-- Accounts: no unit of an errand is lost or made up. Each call changes the units of one number at most, by what its
-- answer says.
use Rattle.std.proofs.Common.{◌≡◌, ℕ, pred, ◌+◌, ◌≤◌, Bool, true, false, cond, not, ◌&&◌, ◌==◌, nat_le, List, [], ◌∷◌, is_some, Some, None, Ok, Err, Option, sym, refl, ap, ◌∙◌, ⊎_elim, arith}
use Rattle.std.proofs.lemmas.Bool.{cases_Bool, cases_eq, and_parts, leb-true, eq-eqb, ne_eqb, cond-true, cond-false}
use Rattle.std.proofs.lemmas.Bool.Decides.{nat_tests}
use Rattle.model.specs.Machine.{Work, State, Step, ServedOrLeft, SparedOrRun, duty_turn, errand_due, slack_of, waits}
use Rattle.model.specs.Promise.{Accounts}
use Rattle.model.specs.Queues.{Meaning, Sound, Changes, look, units_in, errand_within, distinct, one_less, put_refusal}
use Rattle.model.specs.Runs.{Run, stay, step, Trace, was_accepted, of_tick, errand_had, given_back, asked_for, is_withdraw}
use Rattle.model.specs.declared.calls.Answer.{Answer}
use Rattle.model.specs.declared.calls.Answer.TheVariants.{Accepted, Slack as SlackIs, Ticked, Refused}
use Rattle.model.specs.declared.calls.Call.{Call}
use Rattle.model.specs.declared.calls.Call.TheVariants.{Release, Done, Request, Withdraw, Slack, Tick}
use Rattle.model.specs.declared.calls.Who.{Who}
use Rattle.model.specs.declared.errands.Errand.{Errand}
use Rattle.model.proofs.Searches.{none_is}
use Rattle.model.proofs.Ticks.{turn_cases}

-- The units of what was looked up.
abbrev pub units_of : Option Errand → ℕ
units_of None = 0
units_of (Some e) = e.units

pub units_looked_up : (es : List Errand) (n : ℕ) → units_in es n ≡ units_of (look es n)
units_looked_up es n = go (look es n) refl
  where
    go : (o : Option Errand) → look es n ≡ o → units_in es n ≡ units_of o
    go None e = rw (e, units_in)
    go (Some x) e = rw (e, units_in)

-- An errand that waits has a unit left.
waiting_some : (es : List Errand) (n : ℕ) (e : Errand) → distinct es ≡ true → look es n ≡ Some e → 1 ≤ e.units
waiting_some [] n e apart found = absurd (let z : ◌≡◌ {A = ℕ} 0 1 = cc in omega arith)
waiting_some (first ∷ es) n e apart found =
    let (own, rest) = and_parts (errand_within first && not (is_some (look es first.number))) (distinct es) apart in
    let some : 1 ≤ first.units = grind (arith, nat_tests) in
    ⊎_elim
    (λ here. let same : first ≡ e = cc (cond-true (first.number == n) (Some first) (look es n) here) in rw (← same) some)
    (λ below. waiting_some es n e rest (sym (cond-false (first.number == n) (Some first) (look es n) below) ∙ found))
    (cases_Bool (first.number == n))

-- One unit less is one unit less.
units_one_less : (e : Errand) → 1 ≤ e.units → e.units ≡ 1 + units_of (one_less e)
units_one_less e some =
    ⊎_elim
    (λ (last : nat_le e.units 1 ≡ true). rw (last, cond) (omega (arith, leb-true e.units 1 last)))
    (λ (more : nat_le e.units 1 ≡ false). let fact : e.units ≡ 1 + pred e.units = omega arith in rw (more, cond) fact)
    (cases_Bool (nat_le e.units 1))

-- Where the number k alone changed, by `more` units in and `fewer` units out, every number's units are accounted for.
changed_units :
    (m : Meaning) (k : ℕ) (found : Option Errand) (m' : Meaning) (more fewer : ℕ)
    → Changes m k found m'
    → units_in m.waiting k + more ≡ fewer + units_of found
    → (n : ℕ)
    → units_in m.waiting n + cond (k == n) more 0 ≡ cond (k == n) fewer 0 + units_in m'.waiting n
changed_units m k found m' more fewer changes balance n =
    ⊎_elim
    (λ (same : k ≡ n).
    let now : units_in m'.waiting n ≡ units_of found = rw (← same) (units_looked_up m'.waiting k ∙ ap units_of changes.here) in
    let was : units_in m.waiting n + more ≡ fewer + units_of found = rw same at balance in
    rw (cond-true (k == n) more 0 (eq-eqb k n same), cond-true (k == n) fewer 0 (eq-eqb k n same)) (omega arith))
    (λ (other : k ≡ n → ⊥).
    let stays : units_in m'.waiting n ≡ units_in m.waiting n =
    units_looked_up m'.waiting n ∙ ap units_of (changes.others n (λ same. other (sym same))) ∙ sym (units_looked_up m.waiting n) in
    rw (cond-false (k == n) more 0 (ne_eqb k n other), cond-false (k == n) fewer 0 (ne_eqb k n other)) (omega arith))
    (cases_eq k n)

cond_none : (b : Bool) → cond {A = ℕ} b 0 0 ≡ 0
cond_none true = refl
cond_none false = refl

-- What a call with its answer does to the units of each number.
record Balanced (m : Meaning) (call : Call) (answer : Answer) (m' : Meaning) : Type 0 where
  sound : Sound m'
  balance :
      (n : ℕ)
      → units_in m.waiting n + cond (was_accepted answer) (asked_for n call) 0
      ≡ of_tick (errand_had n) answer + cond (is_withdraw n call) (given_back answer) 0 + units_in m'.waiting n

-- A put that is accepted is of a number that does not wait.
put_new : (m : Meaning) (e : Errand) → put_refusal m e ≡ [] → look m.waiting e.number ≡ None
put_new m e accepted =
    ⊎_elim
    (λ (broken : not (errand_within e) ≡ true). absurd (let z : ◌≡◌ {A = ℕ} 0 1 = cc (rw (broken, cond) at accepted) in omega arith))
    (λ (within : not (errand_within e) ≡ false).
    ⊎_elim
    (λ (waits : is_some (look m.waiting e.number) ≡ true).
    absurd (let z : ◌≡◌ {A = ℕ} 0 1 = cc (rw (within, waits, cond) at accepted) in omega arith))
    (λ new. none_is (look m.waiting e.number) new)
    (cases_Bool (is_some (look m.waiting e.number))))
    (cases_Bool (not (errand_within e)))

-- A tick that goes as if no errand waited serves no errand.
none_served : (w : Work) (n : ℕ) → errand_had n (duty_turn w) ≡ 0
none_served w n =
    ⊎_elim
    (λ (none, idle). rw (none, duty_turn))
    (λ (k, found, first). rw (found, duty_turn))
    (turn_cases w.rows)

-- A queue that stays as it was, where no unit is said to come in or go out.
left_balanced :
    (m : Meaning) (call : Call) (answer : Answer) (m' : Meaning)
    → Sound m
    → m' ≡ m
    → ((n : ℕ)
    → cond (was_accepted answer) (asked_for n call) 0
    ≡ of_tick (errand_had n) answer + cond (is_withdraw n call) (given_back answer) 0)
    → Balanced m call answer m'
left_balanced m call answer m' sound same none =
    rw same (record { sound = sound; balance = λ n. omega (arith, none n) })

turn_balanced :
    (due : Bool) (w : Work) (m : Meaning) (turn : Option Who) (slack : ℕ) (who : Who) (w' : Work) (m' : Meaning)
    → SparedOrRun due w turn w' → ServedOrLeft turn m who m' → Sound m → Balanced m Tick (Ticked slack who) m'
turn_balanced due w m None slack who w' m' used (k, had, (named, (e, found, changes))) sound =
    rw had
    (record {
      sound = changes.sound;
      balance = λ n.
          let was : units_in m.waiting k ≡ e.units = units_looked_up m.waiting k ∙ ap units_of found in
          let less = units_one_less e (waiting_some m.waiting k e sound.each_once found) in
          let all = changed_units m k (one_less e) m' 0 1 changes (omega arith) n in
          omega (arith, cond_none (k == n));
    })
turn_balanced true w m (Some had) slack who w' m' (spared, then) left sound = absurd (let z : ◌≡◌ {A = ℕ} 0 1 = cc in omega arith)
turn_balanced false w m (Some had) slack who w' m' (worked, then) (is, same) sound =
    let duty : who ≡ duty_turn w = cc in
    rw duty (left_balanced m Tick (Ticked slack (duty_turn w)) m' sound same (λ n. omega (arith, none_served w n)))

step_balanced :
    (s : State) (call : Call) (answer : Answer) (s' : State)
    → Step s call answer s' → Sound s.queue → Balanced s.queue call answer s'.queue
step_balanced s (Release i) answer s' (Ok x, answered, one, same) sound =
    rw answered (left_balanced s.queue (Release i) Accepted s'.queue sound same (λ n. refl))
step_balanced s (Release i) answer s' (Err why, answered, one, same) sound =
    rw answered (left_balanced s.queue (Release i) (Refused why) s'.queue sound same (λ n. refl))
step_balanced s (Done i) answer s' (Ok x, answered, one, same) sound =
    rw answered (left_balanced s.queue (Done i) Accepted s'.queue sound same (λ n. refl))
step_balanced s (Done i) answer s' (Err why, answered, one, same) sound =
    rw answered (left_balanced s.queue (Done i) (Refused why) s'.queue sound same (λ n. refl))
step_balanced s (Request e) answer s' (Ok x, answered, ((accepted, changes), work-stays)) sound =
    rw answered
    (record {
      sound = changes.sound;
      balance = λ n.
          let none : units_in s.queue.waiting e.number ≡ 0 =
          units_looked_up s.queue.waiting e.number ∙ ap units_of (put_new s.queue e accepted) in
          let all = changed_units s.queue e.number (Some e) s'.queue e.units 0 changes (omega arith) n in
          omega (arith, cond_none (e.number == n));
    })
step_balanced s (Request e) answer s' (Err why, answered, ((refused, same), work-stays)) sound =
    rw answered (left_balanced s.queue (Request e) (Refused why) s'.queue sound same (λ n. refl))
step_balanced s (Withdraw k) answer s' (Ok units, answered, ((e, found, units-are, changes), work-stays)) sound =
    rw answered
    (record {
      sound = changes.sound;
      balance = λ n.
          let had : units_in s.queue.waiting k ≡ units = units_looked_up s.queue.waiting k ∙ ap units_of found ∙ sym units-are in
          let all = changed_units s.queue k None s'.queue 0 units changes (omega arith) n in
          omega (arith, cond_none (k == n));
    })
step_balanced s (Withdraw k) answer s' (Err why, answered, ((missing, refused, same), work-stays)) sound =
    rw answered
    (left_balanced s.queue (Withdraw k) (Refused why) s'.queue sound same (λ n. omega (arith, cond_none (k == n))))
step_balanced s Slack answer s' (answered, same) sound =
    rw answered (left_balanced s.queue Slack (SlackIs (slack_of s.work)) s'.queue sound (ap (λ (t : State). t.queue) same) (λ n. refl))
step_balanced s Tick answer s' (Ok pair, answered, (turn, (room, slack-is, used), served)) sound =
    rw answered
    (turn_balanced (errand_due s.work (waits s.queue)) s.work s.queue turn pair.0 pair.1 s'.work s'.queue used served sound)
step_balanced s Tick answer s' (Err why, answered, (ended, same)) sound =
    rw answered (left_balanced s.queue Tick (Refused why) s'.queue sound same (λ n. refl))

pub accounts_kept :
    (s : State) (trace : Trace) (end : State) → Run s trace end → Sound s.queue → Accounts s.queue trace end.queue
accounts_kept s trace end stay sound n = omega arith
accounts_kept s trace end (step {s' = s'} {call = call} {answer = answer} {rest = rest} one more) sound n =
    let balanced = step_balanced s call answer s' one sound in
    omega (arith, balanced.balance n, accounts_kept s' rest end more balanced.sound n)

-- A run leads from a sound queue to a sound queue.
pub run_sound : (s : State) (trace : Trace) (end : State) → Run s trace end → Sound s.queue → Sound end.queue
run_sound s trace end stay sound = sound
run_sound s trace end (step {s' = s'} {call = call} {answer = answer} {rest = rest} one more) sound =
    run_sound s' rest end more (step_balanced s call answer s' one sound).sound
