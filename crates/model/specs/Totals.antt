-- Totals: what a run took in and gave out over all its errands, read off its calls and answers alone. Accounts
-- speak of one errand number at a time; totals are what can be counted with no numbers kept, one step at a time.
use Rattle.std.specs.Prelude.{◌≡◌, ℕ, ◌+◌, cond, List, [], ◌∷◌}
use Rattle.model.specs.Machine.{State}
use Rattle.model.specs.Queues.{Sound}
use Rattle.model.specs.Runs.{Run, Trace, total, was_accepted, of_tick, given_back}
use Rattle.model.specs.declared.calls.Call.{Call}
use Rattle.model.specs.declared.calls.Call.TheVariants.{Request}
use Rattle.model.specs.declared.calls.Who.{Who}
use Rattle.model.specs.declared.calls.Who.TheVariants.{Errand as ForErrand}
use Rattle.model.specs.declared.errands.Errand.{Errand}

-- The units that the call requests, for whichever errand.
abbrev pub asked : Call → ℕ
asked (Request e) = e.units
asked call = 0

-- A tick that an errand had, whichever.
abbrev pub any_errand_had : Who → ℕ
any_errand_had (ForErrand n) = 1
any_errand_had who = 0

-- Units of all accepted requests; ticks that answered an errand; units that accepted withdraws answered.
abbrev pub total_accepted : Trace → ℕ
total_accepted = total (λ call answer. cond (was_accepted answer) (asked call) 0)

abbrev pub total_served : Trace → ℕ
total_served = total (λ call answer. of_tick any_errand_had answer)

abbrev pub total_withdrawn : Trace → ℕ
total_withdrawn = total (λ call answer. given_back answer)

-- The units of all the errands in a list.
abbrev pub total_units : List Errand → ℕ
total_units [] = 0
total_units (e ∷ es) = e.units + total_units es

-- The totals balance: in every run from any state with any queue, the units that waited at the start and were accepted
-- since are the ticks that errands had, the units withdrawn and the units still waiting. The table need not be admitted.
abbrev pub TotalsBalance : Type 0
TotalsBalance =
    (start : State) (trace : Trace) (end : State)
    → Sound start.queue
    → Run start trace end
    → total_units start.queue.waiting + total_accepted trace
    ≡ total_served trace + total_withdrawn trace + total_units end.queue.waiting
