-- Lawful futures: what can still be asked of the table from some work on, if every tick goes to the duties. The clock
-- of a future has no last value.
use Rattle.std.specs.Prelude.{◌≡◌, ℕ, Bool, true, false, ◌||◌, List, [], ◌∷◌, ◌==◌, ◌≢◌}
use Rattle.model.specs.Machine.{Work, call_refusal, after_call, duty_tick, later}
use Rattle.model.specs.declared.rows.Row.{Row}
use Rattle.model.specs.declared.rows.Row.TheVariants.{Idle, Ready}
use Rattle.model.specs.declared.rows.RowCall.TheVariants.{Release, Done}

-- What a future is made of: releases and dones of rows, and ticks that go as if no errand waited.
pub data Move : Type 0 where
  release : ℕ → Move
  done : ℕ → Move
  tick : Move

-- No release and no done of the list is refused.
abbrev pub Lawful : Work → List Move → Type 0
Lawful w [] = Unit {0}
Lawful w (release i ∷ moves) = (call_refusal w i Release ≡ []) × Lawful (after_call w i Release) moves
Lawful w (done i ∷ moves) = (call_refusal w i Done ≡ []) × Lawful (after_call w i Done) moves
Lawful w (tick ∷ moves) = Lawful (later (duty_tick w)) moves

-- The clock equals the deadline of a ready job.
abbrev pub overdue : ℕ → List Row → Bool
overdue clock [] = false
overdue clock (Idle e ∷ rows) = overdue clock rows
overdue clock (Ready c d e ∷ rows) = clock == d || overdue clock rows

-- The future misses a deadline, at its start or after a move.
abbrev pub misses : Work → List Move → Bool
misses w [] = overdue w.clock w.rows
misses w (release i ∷ moves) = overdue w.clock w.rows || misses (after_call w i Release) moves
misses w (done i ∷ moves) = overdue w.clock w.rows || misses (after_call w i Done) moves
misses w (tick ∷ moves) = overdue w.clock w.rows || misses (later (duty_tick w)) moves

-- No lawful future misses a deadline.
abbrev pub Safe : Work → Type 0
Safe w = (moves : List Move) → Lawful w moves → misses w moves ≢ true
