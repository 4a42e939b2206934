-- The machine: its work, which is the duty table, the clock and the state of each row, and its queue by its meaning;
-- and what each call answers and does. Everything is determined but the queue's choice among those waiting, so a call
-- is a relation between the state before, its answer and the state after.
use Rattle.std.specs.Prelude.{◌≡◌, ℕ, pred, ◌+◌, ◌<◌, ◌≤◌, Bool, true, false, cond, ◌&&◌, List, [], ◌∷◌, length, replicate, Some, None, Ok, Err, Option, Result, nat_le, nat_lt, slice_set}
use Rattle.model.specs.Demand.{row_at}
use Rattle.model.specs.Queues.{Meaning, Put, Spend, Take}
use Rattle.model.specs.Refusals.{refusal_code}
use Rattle.model.specs.Searches.{least}
use Rattle.model.specs.Slack.{table_slack}
use Rattle.model.specs.Table.{duty_at}
use Rattle.model.specs.declared.calls.Answer.{Answer}
use Rattle.model.specs.declared.calls.Answer.TheVariants.{Accepted, Withdrawn, Slack as SlackIs, Ticked, Refused}
use Rattle.model.specs.declared.calls.Call.{Call}
use Rattle.model.specs.declared.calls.Call.TheVariants.{Release, Done, Request, Withdraw, Slack, Tick}
use Rattle.model.specs.declared.calls.Who.{Who}
use Rattle.model.specs.declared.calls.Who.TheVariants.{Nobody, Duty as ForDuty, Errand as ForErrand}
use Rattle.model.specs.declared.duties.Duty.{Duty}
use Rattle.model.specs.declared.errands.Errand.{Errand}
use Rattle.model.specs.declared.refusals.Refusal.{Refusal}
use Rattle.model.specs.declared.rows.Row.{Row}
use Rattle.model.specs.declared.rows.Row.TheVariants.{Idle, Ready}
use Rattle.model.specs.declared.rows.RowCall.{RowCall}
use Rattle.model.specs.declared.rows.RowCall.TheVariants.{Release as RowRelease, Done as RowDone, Tick as RowTick}

pub record Work : Type 0 where
  pub table : List Duty
  pub clock : ℕ
  pub rows : List Row

pub record State : Type 0 where
  pub work : Work
  pub queue : Meaning

-- The clock counts ticks from 0 and goes no further than this.
abbrev pub last_clock : ℕ
last_clock = 4294967295

-- At the start the clock is 0 and every row is idle and may be released at once; the queue is as it comes.
abbrev pub fresh_work : List Duty → Work
fresh_work table = record { table = table; clock = 0; rows = replicate (length table) (Idle 0) }

abbrev pub fresh : List Duty → Meaning → State
fresh table m = record { work = fresh_work table; queue = m }

-- The work with other rows, and nothing else changed.
abbrev pub with_rows : Work → List Row → Work
with_rows w rows = record w { rows = rows }

-- The work with the clock raised by 1, and nothing else changed.
abbrev pub later : Work → Work
later w = record w { clock = w.clock + 1 }

-- A row as its release at a clock leaves it.
abbrev pub released : Duty → ℕ → Row
released duty clock = Ready duty.cost (clock + duty.deadline) (clock + duty.separation)

-- What refuses a call to a row: 5, it may not be released yet; 6, it has no job to end.
abbrev pub row_refusal : ℕ → Row → RowCall → List ℕ
row_refusal clock (Idle e) RowRelease = cond (nat_lt clock e) (5 ∷ []) []
row_refusal clock (Ready c d e) RowRelease = cond (nat_lt clock e) (5 ∷ []) []
row_refusal clock (Idle e) RowDone = 6 ∷ []
row_refusal clock row call = []

-- What an accepted call makes of a row. One tick of work takes one unit, and the job ends with its last; its
-- end, either way, keeps the earliest release.
abbrev pub row_after : Duty → ℕ → Row → RowCall → Row
row_after duty clock row RowRelease = released duty clock
row_after duty clock (Ready c d e) RowDone = Idle e
row_after duty clock (Ready c d e) RowTick = cond (nat_le c 1) (Idle e) (Ready (pred c) d e)
row_after duty clock row call = row

-- What refuses a call to row i: 1, there is no such row; else what its state refuses.
abbrev pub call_refusal : Work → ℕ → RowCall → List ℕ
call_refusal w i call =
    cond (nat_lt i (length w.rows)) (row_refusal w.clock (row_at w.rows i) call) (1 ∷ [])

-- The work after an accepted call to row i: that row alone changed.
abbrev pub after_call : Work → ℕ → RowCall → Work
after_call w i call =
    with_rows w (slice_set w.rows i (row_after (duty_at w.table i) w.clock (row_at w.rows i) call))

abbrev pub is_ready : Row → Bool
is_ready (Ready c d e) = true
is_ready row = false

abbrev pub ready_at : List Row → ℕ → Bool
ready_at rows i = is_ready (row_at rows i)

-- The ready row with the smallest number.
abbrev pub first_ready : List Row → Option ℕ
first_ready rows = least (ready_at rows) 0 (length rows)

-- Who has a tick that goes as if no errand waited: the first ready row, or nobody.
abbrev pub duty_turn : Work → Who
duty_turn w = elim (first_ready w.rows) [ None ↦ Nobody | Some i ↦ ForDuty i ]

-- What such a tick makes of the work, before the clock is raised: the first ready row has one tick of work.
abbrev pub duty_tick : Work → Work
duty_tick w = with_rows w (elim (first_ready w.rows) [ None ↦ w.rows | Some i ↦ (after_call w i RowTick).rows ])

-- An errand waits.
abbrev pub waits : Meaning → Bool
waits m = elim m.waiting [ [] ↦ false | ◌∷◌ e es ↦ true ]

-- The table's slack, with the releases for the clock over.
abbrev pub slack_of : Work → ℕ
slack_of w = table_slack (w.clock + 1) w.clock w.table w.rows

-- A call to row i: refused with nothing changed, or done to that row alone.
abbrev pub RowCalled : {X : Type 0} → Work → ℕ → RowCall → Result X Refusal → Work → Type 0
RowCalled w i call (Ok x) w' = (call_refusal w i call ≡ []) × (w' ≡ after_call w i call)
RowCalled w i call (Err why) w' = (call_refusal w i call ≡ refusal_code why) × (w' ≡ w)

-- Request and withdraw pass to the queue, and leave the work.
abbrev pub Requested : {X : Type 0} → State → Errand → Result X Refusal → State → Type 0
Requested s e r s' = Put s.queue e r s'.queue × (s'.work ≡ s.work)

abbrev pub Withdraws : State → ℕ → Result ℕ Refusal → State → Type 0
Withdraws s n r s' = Take s.queue n r s'.queue × (s'.work ≡ s.work)

-- An errand is to have the tick: one waits, and the table's slack is at least 1.
abbrev pub errand_due : Work → Bool → Bool
errand_due w errand_waits = errand_waits && nat_le 1 (slack_of w)

-- What becomes of the tick. To spare, it leaves the rows as they are, and nobody is named yet; otherwise it goes as
-- if no errand waited. The clock rises by 1.
abbrev pub SparedOrRun : Bool → Work → Option Who → Work → Type 0
SparedOrRun true w turn w' = (turn ≡ None) × (w' ≡ later w)
SparedOrRun false w turn w' = (turn ≡ Some (duty_turn w)) × (w' ≡ later (duty_tick w))

-- A tick of the work: 7 at the clock's last value, with nothing changed; else the slack before it, and who has it,
-- none where it is to spare. It is to spare exactly where an errand is to have it.
abbrev pub WorkTicks : Work → Bool → Result (ℕ × Option Who) Refusal → Work → Type 0
WorkTicks w errand_waits (Ok answer) w' =
    (w.clock < last_clock)
    × (answer.0 ≡ slack_of w)
    × SparedOrRun (errand_due w errand_waits) w answer.1 w'
WorkTicks w errand_waits (Err why) w' = (last_clock ≤ w.clock) × (refusal_code why ≡ 7 ∷ []) × (w' ≡ w)

-- What the tick asks of the queue, and who has it then: where it is to spare, the errand that the queue names, which
-- loses one unit.
abbrev pub ServedOrLeft : Option Who → Meaning → Who → Meaning → Type 0
ServedOrLeft None m who m' = ((n : ℕ) × (who ≡ ForErrand n) × Spend m (Some n) m')
ServedOrLeft (Some had) m who m' = (who ≡ had) × (m' ≡ m)

-- A tick of the machine: its work's tick, and what that asks of the queue.
abbrev pub Ticks : State → Result (ℕ × Who) Refusal → State → Type 0
Ticks s (Ok answer) s' =
    ((turn : Option Who)
    × WorkTicks s.work (waits s.queue) (Ok (answer.0, turn)) s'.work
    × ServedOrLeft turn s.queue answer.1 s'.queue)
Ticks s (Err why) s' = WorkTicks s.work (waits s.queue) (Err why) s'.work × (s'.queue ≡ s.queue)

-- The answers of a run, from the results of the calls.
abbrev pub plain_answer : Result (Unit {0}) Refusal → Answer
plain_answer (Ok x) = Accepted
plain_answer (Err why) = Refused why

abbrev pub units_answer : Result ℕ Refusal → Answer
units_answer (Ok units) = Withdrawn units
units_answer (Err why) = Refused why

abbrev pub tick_answer : Result (ℕ × Who) Refusal → Answer
tick_answer (Ok answer) = Ticked answer.0 answer.1
tick_answer (Err why) = Refused why

-- One step: a call, its answer, and the state after. Release and done pass to the work and leave the queue; the call
-- slack leaves both.
abbrev pub Step : State → Call → Answer → State → Type 0
Step s (Release i) a s' =
    ((r : Result (Unit {0}) Refusal)
    × (a ≡ plain_answer r)
    × RowCalled s.work i RowRelease r s'.work
    × (s'.queue ≡ s.queue))
Step s (Done i) a s' =
    ((r : Result (Unit {0}) Refusal)
    × (a ≡ plain_answer r)
    × RowCalled s.work i RowDone r s'.work
    × (s'.queue ≡ s.queue))
Step s (Request e) a s' = ((r : Result (Unit {0}) Refusal) × (a ≡ plain_answer r) × Requested s e r s')
Step s (Withdraw n) a s' = ((r : Result ℕ Refusal) × (a ≡ units_answer r) × Withdraws s n r s')
Step s Slack a s' = (a ≡ SlackIs (slack_of s.work)) × (s' ≡ s)
Step s Tick a s' = ((r : Result (ℕ × Who) Refusal) × (a ≡ tick_answer r) × Ticks s r s')
