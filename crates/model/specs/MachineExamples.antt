-- A run of the machine worked out in full, and a state of it that has no tick to spare. They show that what is said
-- of runs, slack and futures is said of something: an errand is served while there is slack and a duty once there is
-- none, calls are refused, and a tick spared without slack leads to a missed deadline.
use Rattle.std.specs.Prelude.{◌≡◌, ℕ, true, List, [], ◌∷◌, Some, None}
use Rattle.model.specs.Futures.{Move, release, tick, Lawful, misses}
use Rattle.model.specs.Machine.{State, Step, fresh, later, slack_of}
use Rattle.model.specs.Queues.{Meaning}
use Rattle.model.specs.Runs.{Run, Trace}
use Rattle.model.specs.Table.{admitted}
use Rattle.model.specs.Worked.{three, all_released}
use Rattle.model.specs.declared.calls.Answer.{Answer}
use Rattle.model.specs.declared.calls.Answer.TheVariants.{Accepted, Withdrawn, Slack as SlackIs, Ticked, Refused}
use Rattle.model.specs.declared.calls.Call.TheVariants.{Release, Done, Request, Withdraw, Slack, Tick}
use Rattle.model.specs.declared.calls.Who.TheVariants.{Duty as ForDuty, Errand as ForErrand}
use Rattle.model.specs.declared.errands.Errand.{Errand}
use Rattle.model.specs.declared.refusals.Refusal.TheVariants.{NoSuchRow, TooSoon, RowIdle, NotWaiting}
use Rattle.model.specs.declared.rows.Row.TheVariants.{Idle, Ready}

-- Errand 7, worth 10, with some units left.
abbrev pub errand_7 : ℕ → Errand
errand_7 units = record { number = 7; units = units; worth = 10 }

-- A queue of 64 places in which nothing waits; one in which errand 7 does.
abbrev pub empty_queue : Meaning
empty_queue = record { waiting = []; named = None; places = 64 }

abbrev pub holding : ℕ → Meaning
holding units = record { waiting = errand_7 units ∷ []; named = Some 7; places = 64 }

-- Over the three duties of cost, deadline and separation 1, 4, 4 and 2, 6, 6 and 3, 12, 12: each is released at the
-- start, and errand 7 requested with three units. Two ticks can be spared and go to the errand; then the duties need
-- each one. Row 0 is released again as soon as it may be, and not before.
abbrev pub worked_out : Trace
worked_out =
    (Release 0, Accepted)
    ∷ (Release 1, Accepted)
    ∷ (Release 2, Accepted)
    ∷ (Release 3, Refused NoSuchRow)
    ∷ (Request (errand_7 3), Accepted)
    ∷ (Slack, SlackIs 2)
    ∷ (Tick, Ticked 2 (ForErrand 7))
    ∷ (Tick, Ticked 1 (ForErrand 7))
    ∷ (Tick, Ticked 0 (ForDuty 0))
    ∷ (Release 0, Refused TooSoon)
    ∷ (Done 0, Refused RowIdle)
    ∷ (Tick, Ticked 0 (ForDuty 1))
    ∷ (Release 0, Accepted)
    ∷ (Tick, Ticked 0 (ForDuty 0))
    ∷ (Withdraw 7, Withdrawn 1)
    ∷ (Withdraw 7, Refused NotWaiting)
    ∷ (Done 1, Accepted)
    ∷ []

-- The machine at its end,
abbrev pub worked_out_end : State
worked_out_end =
    record {
      work = record { table = three; clock = 5; rows = Idle 8 ∷ Idle 6 ∷ Ready 3 12 12 ∷ [] };
      queue = empty_queue;
    }

-- and before its third tick: an errand waits, and there is no slack.
abbrev pub without_slack : State
without_slack = record { work = record { table = three; clock = 2; rows = all_released }; queue = holding 1 }

-- Had the errand that tick too, row 1 could miss its deadline at 6: row 0 has the tick at 3, is released again at 4
-- and has that tick, and one tick alone is left to row 1.
abbrev pub missing : List Move
missing = tick ∷ release 0 ∷ tick ∷ tick ∷ []

-- The same state with nothing but the clock raised.
abbrev pub clock_alone : State → State
clock_alone s = record s { work = later s.work }

pub record MachineExamples : Type 0 where
  pub table_admitted : admitted three ≡ true
  pub run_worked_out : Run (fresh three empty_queue) worked_out worked_out_end
  pub no_slack : slack_of without_slack.work ≡ 0
  pub missing_lawful : Lawful (later without_slack.work) missing
  pub missing_misses : misses (later without_slack.work) missing ≡ true
  pub no_idle_tick : (answer : Answer) → Step without_slack Tick answer (clock_alone without_slack) → ⊥
