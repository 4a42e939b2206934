-- Runs: finite lists of calls with their answers, and what can be read off such a list alone.
use Rattle.std.specs.Prelude.{ℕ, ◌+◌, Bool, true, false, cond, ◌&&◌, List, [], ◌∷◌, map, ◌==◌}
use Rattle.model.specs.Machine.{State, Step}
use Rattle.model.specs.declared.calls.Answer.{Answer}
use Rattle.model.specs.declared.calls.Answer.TheVariants.{Accepted, Withdrawn, Ticked}
use Rattle.model.specs.declared.calls.Call.{Call}
use Rattle.model.specs.declared.calls.Call.TheVariants.{Release, Done, Request, Withdraw}
use Rattle.model.specs.declared.calls.Who.{Who}
use Rattle.model.specs.declared.calls.Who.TheVariants.{Duty as ForDuty, Errand as ForErrand}

-- Calls with their answers, the oldest first.
abbrev pub Trace : Type 0
Trace = List (Call × Answer)

-- The calls alone.
abbrev pub calls_in : Trace → List Call
calls_in = map (λ (x : Call × Answer). x.0)

-- The machine goes from one state to another by these calls with these answers.
pub data Run : State → Trace → State → Type 0 where
  stay : {s : State} → Run s [] s
  step : {s s' end : State} {call : Call} {answer : Answer} {rest : Trace}
      → Step s call answer s' → Run s' rest end → Run s ((call, answer) ∷ rest) end

-- The sum of what f says of each call with its answer.
abbrev pub total : (Call → Answer → ℕ) → Trace → ℕ
total f [] = 0
total f (x ∷ xs) = f x.0 x.1 + total f xs

-- The call was accepted with nothing else to tell.
abbrev pub was_accepted : Answer → Bool
was_accepted Accepted = true
was_accepted answer = false

-- Of an accepted tick, what f says of who had it; of any other answer 0.
abbrev pub of_tick : (Who → ℕ) → Answer → ℕ
of_tick f (Ticked k who) = f who
of_tick f answer = 0

-- The units that an accepted withdraw answered.
abbrev pub given_back : Answer → ℕ
given_back (Withdrawn units) = units
given_back answer = 0

-- A tick, whoever had it; one that row i had; one that errand n had.
abbrev pub anyone : Who → ℕ
anyone who = 1

abbrev pub row_had : ℕ → Who → ℕ
row_had i (ForDuty j) = cond (j == i) 1 0
row_had i who = 0

abbrev pub errand_had : ℕ → Who → ℕ
errand_had n (ForErrand m) = cond (m == n) 1 0
errand_had n who = 0

-- The call is a release of row i; a done of row i.
abbrev pub is_release : ℕ → Call → Bool
is_release i (Release j) = j == i
is_release i call = false

abbrev pub is_done : ℕ → Call → Bool
is_done i (Done j) = j == i
is_done i call = false

-- The units that the call requests for errand n.
abbrev pub asked_for : ℕ → Call → ℕ
asked_for n (Request e) = cond (e.number == n) e.units 0
asked_for n call = 0

-- The call is a withdraw of errand n.
abbrev pub is_withdraw : ℕ → Call → Bool
is_withdraw n (Withdraw m) = m == n
is_withdraw n call = false

-- How many ticks were accepted: how far the clock has gone.
abbrev pub ticks : Trace → ℕ
ticks = total (λ call answer. of_tick anyone answer)

-- How many ticks answered row i.
abbrev pub row_ticks : ℕ → Trace → ℕ
row_ticks i = total (λ call answer. of_tick (row_had i) answer)

-- How many dones of row i were accepted.
abbrev pub dones : ℕ → Trace → ℕ
dones i = total (λ call answer. cond (is_done i call && was_accepted answer) 1 0)

-- Units of accepted requests for errand n; ticks that answered it; units that its accepted withdraws answered.
abbrev pub accepted : ℕ → Trace → ℕ
accepted n = total (λ call answer. cond (was_accepted answer) (asked_for n call) 0)

abbrev pub served : ℕ → Trace → ℕ
served n = total (λ call answer. of_tick (errand_had n) answer)

abbrev pub withdrawn : ℕ → Trace → ℕ
withdrawn n = total (λ call answer. cond (is_withdraw n call) (given_back answer) 0)

-- The list up to the next accepted release of row i.
abbrev pub until_release : ℕ → Trace → Trace
until_release i [] = []
until_release i (x ∷ xs) = cond (is_release i x.0 && was_accepted x.1) [] (x ∷ until_release i xs)
