-- The run promise: what holds of every run of the machine, over any queue.
use Rattle.std.specs.Prelude.{◌≡◌, ℕ, ◌+◌, ◌≤◌, Bool, true, false, ◌⊎◌, List, ◌∷◌, ◌++◌}
use Rattle.model.specs.Futures.{Safe}
use Rattle.model.specs.Kept.{Keeps}
use Rattle.model.specs.Machine.{State, Step, later, waits}
use Rattle.model.specs.Queues.{Meaning, Sound, units_in}
use Rattle.model.specs.Runs.{Run, Trace, ticks, row_ticks, dones, accepted, served, withdrawn, until_release}
use Rattle.model.specs.Table.{duty_at}
use Rattle.model.specs.declared.calls.Answer.TheVariants.{Accepted, Ticked}
use Rattle.model.specs.declared.calls.Call.TheVariants.{Release, Tick}
use Rattle.model.specs.declared.calls.Who.{Who}
use Rattle.model.specs.declared.calls.Who.TheVariants.{Errand as ForErrand}
use Rattle.model.specs.declared.duties.Duty.{Duty}

-- The steps of a run compare refusals as lists of numbers. The list is empty where nothing refuses the call; else it is
-- the refusal's code, which is its number and behind that what goes with it (`refusal_code`).

-- The job of row i that this part of a list follows has had all its ticks, or was called done.
abbrev pub Finished : List Duty → ℕ → Trace → Type 0
Finished table i part = ((duty_at table i).cost ≤ row_ticks i part) ⊎ (1 ≤ dones i part)

-- Deadlines: whenever as many ticks as the deadline says have passed since an accepted release, the job has
-- had all its ticks or was called done, before its row's next accepted release. Any part of the list that follows the
-- release counts, so also the part that ends just at the deadline. A job that ends late has had fewer ticks than its
-- cost in that part, so that it is not `Finished` there.
abbrev pub Deadlines : State → Trace → Type 0
Deadlines start trace =
    (before during after : Trace) (i : ℕ)
    → trace ≡ before ++ (Release i, Accepted) ∷ (during ++ after)
    → (duty_at start.work.table i).deadline ≤ ticks during
    → Finished start.work.table i (until_release i during)

abbrev pub is_errand : Who → Bool
is_errand (ForErrand n) = true
is_errand who = false

-- Spare ticks: an accepted tick before which an errand waited went to an errand exactly when no lawful future
-- misses, from the rows as they were and the clock raised by 1. The machine leaves open which errand a queue names, so
-- the calls before the tick may lead to several states: it is said of every state that they, with their answers, can
-- lead to, where the tick and the rest of the list can follow.
abbrev pub SpareTicks : State → Trace → State → Type 0
SpareTicks start trace end =
    (before after : Trace) (s s' : State) (slack : ℕ) (who : Who)
    → trace ≡ before ++ (Tick, Ticked slack who) ∷ after
    → Run start before s
    → Step s Tick (Ticked slack who) s'
    → Run s' after end
    → waits s.queue ≡ true
    → (is_errand who ≡ true → Safe (later s.work)) × (Safe (later s.work) → is_errand who ≡ true)

-- Accounts: for each errand number, the units held at the start and accepted since are the ticks that it had,
-- the units withdrawn and the units still waiting.
abbrev pub Accounts : Meaning → Trace → Meaning → Type 0
Accounts m trace m' =
    (n : ℕ)
    → units_in m.waiting n + accepted n trace ≡ served n trace + withdrawn n trace + units_in m'.waiting n

-- The run promise, whole.
pub record Promise (start : State) (trace : Trace) (end : State) : Type 0 where
  pub follows : Run start trace end
  pub deadlines : Deadlines start trace
  pub spare_ticks : SpareTicks start trace end
  pub accounts : Accounts start.queue trace end.queue

-- It holds of every run from any state whose work is kept over an admitted table, whatever the queue holds at the
-- start. The fresh work of an admitted table is kept (`KeptAlways.at_the_start`). That the queue's meaning is sound asks
-- nothing of anybody who starts a machine: whatever is a queue promises it of its meaning at all times.
abbrev pub EveryRunKeepsThePromise : Type 0
EveryRunKeepsThePromise =
    (start : State) (trace : Trace) (end : State)
    → Keeps start.work
    → Sound start.queue
    → Run start trace end
    → Promise start trace end
