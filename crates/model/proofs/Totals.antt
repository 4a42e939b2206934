-- The totals of a run balance, since the accounts of each errand number do: each total is the sum, over the errand
-- numbers below some bound, of what the accounts say of that number. A bound above every number that occurs exists
-- since a run and the lists of those that wait are finite, and a list has each number once, so that none of its
-- units is counted twice or passed over (Weights).
use Rattle.std.proofs.Common.{◌≡◌, ℕ, suc, ◌+◌, ◌≤◌, Bool, true, false, cond, List, [], ◌∷◌, Ok, Err, refl, ap, ◌∙◌, arith}
use Rattle.model.specs.Machine.{State, Step}
use Rattle.model.specs.Queues.{look, units_in, distinct}
use Rattle.model.specs.Runs.{Run, stay, step, Trace, total, was_accepted, of_tick, errand_had, given_back, asked_for, is_withdraw, accepted, served, withdrawn}
use Rattle.model.specs.Totals.{asked, any_errand_had, total_accepted, total_served, total_withdrawn, total_units, TotalsBalance}
use Rattle.model.specs.declared.calls.Answer.{Answer}
use Rattle.model.specs.declared.calls.Answer.TheVariants.{Ticked}
use Rattle.model.specs.declared.calls.Call.{Call}
use Rattle.model.specs.declared.calls.Call.TheVariants.{Release, Done, Request, Withdraw, Slack, Tick}
use Rattle.model.specs.declared.calls.Who.{Who}
use Rattle.model.specs.declared.calls.Who.TheVariants.{Errand as ForErrand}
use Rattle.model.specs.declared.errands.Errand.{Errand}
use Rattle.model.proofs.Accounts.{units_looked_up, accounts_kept, run_sound}
use Rattle.model.proofs.Sums.{sum_to, sum_none, sum_same, sum_both}
use Rattle.model.proofs.Weights.{list_bound, total_weight, under_one_number, weight_of, weight_of_all_numbers}

-- Above the errand number that a call, an answer's tick, a run or a list has. A sum of such bounds is above each.
abbrev call_bound : Call → ℕ
call_bound (Request e) = suc e.number
call_bound (Withdraw n) = suc n
call_bound call = 0

abbrev who_bound : Who → ℕ
who_bound (ForErrand n) = suc n
who_bound who = 0

abbrev step_bound : Call → Answer → ℕ
step_bound call answer = call_bound call + of_tick who_bound answer

-- The units of a list, as what is counted of each errand.
units_weighed : (es : List Errand) → total_weight (λ e. e.units) es ≡ total_units es
units_weighed [] = refl
units_weighed (e ∷ es) = ap (λ units. e.units + units) (units_weighed es)

module _ (bound : ℕ) where
  sum_zero : sum_to (λ n. 0) bound ≡ 0
  sum_zero = sum_none (λ n. 0) bound (λ n h. refl)

  -- All numbers' units in a list that has each number once are the units in the list.
  units_of_all_numbers : (es : List Errand) → distinct es ≡ true → list_bound es ≤ bound → sum_to (units_in es) bound ≡ total_units es
  units_of_all_numbers es apart below =
      sum_same (units_in es) (λ n. weight_of (λ e. e.units) (look es n)) bound (λ n h. units_looked_up es n)
      ∙ weight_of_all_numbers (λ e. e.units) bound es apart below ∙ units_weighed es

  -- What a call asks for all numbers is what it asks; where it was refused that is nothing.
  asked_of_all_numbers : (call : Call) → call_bound call ≤ bound → sum_to (λ n. asked_for n call) bound ≡ asked call
  asked_of_all_numbers (Request e) below = under_one_number bound e.number e.units below
  asked_of_all_numbers call below = sum_zero

  accepted_of_all_numbers :
      (yes : Bool) (call : Call) → call_bound call ≤ bound → sum_to (λ n. cond yes (asked_for n call) 0) bound ≡ cond yes (asked call) 0
  accepted_of_all_numbers true call below = asked_of_all_numbers call below
  accepted_of_all_numbers false call below = sum_zero

  -- A tick that some number had is one that an errand had.
  had_of_all_numbers : (who : Who) → who_bound who ≤ bound → sum_to (λ n. errand_had n who) bound ≡ any_errand_had who
  had_of_all_numbers (ForErrand k) below = under_one_number bound k 1 below
  had_of_all_numbers who below = sum_zero

  served_of_all_numbers :
      (answer : Answer) → of_tick who_bound answer ≤ bound → sum_to (λ n. of_tick (errand_had n) answer) bound ≡ of_tick any_errand_had answer
  served_of_all_numbers (Ticked k who) below = had_of_all_numbers who below
  served_of_all_numbers answer below = sum_zero

  -- Units come back by a withdraw alone, under its number.
  withdrawn_of_all_numbers :
      (s : State) (call : Call) (answer : Answer) (s' : State)
      → Step s call answer s'
      → call_bound call ≤ bound
      → sum_to (λ n. cond (is_withdraw n call) (given_back answer) 0) bound ≡ given_back answer
  withdrawn_of_all_numbers s (Release i) answer s' (Ok x, answered, called, queue-stays) below = rw answered sum_zero
  withdrawn_of_all_numbers s (Release i) answer s' (Err why, answered, called, queue-stays) below = rw answered sum_zero
  withdrawn_of_all_numbers s (Done i) answer s' (Ok x, answered, called, queue-stays) below = rw answered sum_zero
  withdrawn_of_all_numbers s (Done i) answer s' (Err why, answered, called, queue-stays) below = rw answered sum_zero
  withdrawn_of_all_numbers s (Request e) answer s' (Ok x, answered, requested) below = rw answered sum_zero
  withdrawn_of_all_numbers s (Request e) answer s' (Err why, answered, requested) below = rw answered sum_zero
  withdrawn_of_all_numbers s (Withdraw k) answer s' one below = under_one_number bound k (given_back answer) below
  withdrawn_of_all_numbers s Slack answer s' (answered, same) below = rw answered sum_zero
  withdrawn_of_all_numbers s Tick answer s' (Ok pair, answered, ticked) below = rw answered sum_zero
  withdrawn_of_all_numbers s Tick answer s' (Err why, answered, ticked) below = rw answered sum_zero

  -- Where g says of each step what f says of it for all numbers, so do their totals over a run.
  totals_of_all_numbers :
      (f : ℕ → Call → Answer → ℕ) (g : Call → Answer → ℕ)
      → ((s : State) (call : Call) (answer : Answer) (s' : State)
      → Step s call answer s' → step_bound call answer ≤ bound → sum_to (λ n. f n call answer) bound ≡ g call answer)
      → (s : State) (trace : Trace) (end : State)
      → Run s trace end → total step_bound trace ≤ bound → sum_to (λ n. total (f n) trace) bound ≡ total g trace
  totals_of_all_numbers f g each s trace end stay below = sum_zero
  totals_of_all_numbers f g each s trace end (step {s' = s'} {call = call} {answer = answer} {rest = rest} one more) below =
      omega (
        arith,
        sum_both (λ n. f n call answer) (λ n. total (f n) rest) bound,
        each s call answer s' one (omega arith),
        totals_of_all_numbers f g each s' rest end more (omega arith),
      )

pub totals_balance : TotalsBalance
totals_balance start trace end sound run =
    let last : List Errand = end.queue.waiting in
    let bound : ℕ = list_bound start.queue.waiting + total step_bound trace + list_bound last in
    let all-accepted : sum_to (λ n. accepted n trace) bound ≡ total_accepted trace =
    totals_of_all_numbers bound (λ n call answer. cond (was_accepted answer) (asked_for n call) 0)
    (λ call answer. cond (was_accepted answer) (asked call) 0)
    (λ s call answer s' one below. accepted_of_all_numbers bound (was_accepted answer) call (omega arith)) start trace end run (omega arith) in
    let all-served : sum_to (λ n. served n trace) bound ≡ total_served trace =
    totals_of_all_numbers bound (λ n call answer. of_tick (errand_had n) answer) (λ call answer. of_tick any_errand_had answer)
    (λ s call answer s' one below. served_of_all_numbers bound answer (omega arith)) start trace end run (omega arith) in
    let all-withdrawn : sum_to (λ n. withdrawn n trace) bound ≡ total_withdrawn trace =
    totals_of_all_numbers bound (λ n call answer. cond (is_withdraw n call) (given_back answer) 0) (λ call answer. given_back answer)
    (λ s call answer s' one below. withdrawn_of_all_numbers bound s call answer s' one (omega arith)) start trace end run (omega arith) in
    omega (
      arith,
      units_of_all_numbers bound start.queue.waiting sound.each_once (omega arith),
      units_of_all_numbers bound last (run_sound start trace end run sound).each_once (omega arith),
      sum_both (units_in start.queue.waiting) (λ n. accepted n trace) bound,
      sum_both (λ n. served n trace + withdrawn n trace) (units_in last) bound,
      sum_both (λ n. served n trace) (λ n. withdrawn n trace) bound,
      sum_same (λ n. units_in start.queue.waiting n + accepted n trace) (λ n. served n trace + withdrawn n trace + units_in last n) bound
          (λ n h. accounts_kept start trace end run sound n),
    )
