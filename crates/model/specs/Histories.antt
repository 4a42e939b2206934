-- What happens to a queue, read off calls and their answers alone, and ticks that go by a choice over it.
use Rattle.std.specs.Prelude.{◌≡◌, ℕ, cond, List, [], ◌∷◌, ◌++◌, Some, None, Ok, Err, Option, Result}
use Rattle.model.specs.Runs.{Trace, was_accepted}
use Rattle.model.specs.declared.calls.Answer.{Answer}
use Rattle.model.specs.declared.calls.Answer.TheVariants.{Withdrawn, Ticked}
use Rattle.model.specs.declared.calls.Call.{Call}
use Rattle.model.specs.declared.calls.Call.TheVariants.{Request, Withdraw, Tick}
use Rattle.model.specs.declared.calls.Who.{Who}
use Rattle.model.specs.declared.calls.Who.TheVariants.{Errand as ForErrand}
use Rattle.model.specs.declared.errands.Errand.{Errand}
use Rattle.model.specs.declared.refusals.Refusal.{Refusal}

-- An errand was put; a unit was spent on the errand of a number; the errand of a number was taken out.
pub data Event : Type 0 where
  was_put : Errand → Event
  was_spent : ℕ → Event
  was_taken : ℕ → Event

-- All that happened to a queue since it was empty, the oldest first.
abbrev pub History : Type 0
History = List Event

-- A choice: the number of the errand that is served next, if any, after what a history says.
abbrev pub Choice : Type 0
Choice = History → Option ℕ

-- From q to q' the history grew by what was added: whatever history q can have, q' can have the same with this behind it.
abbrev pub GoesOn : {Q : Type 0} → (History → Q → Type 0) → Q → History → Q → Type 0
GoesOn arises q added q' = (past : History) → arises past q → arises (past ++ added) q'

-- What a put, a spend and a take add to a queue's history. What is refused, or finds nothing, adds nothing.
abbrev pub by_put : {X : Type 0} → Errand → Result X Refusal → History
by_put e (Ok x) = was_put e ∷ []
by_put e (Err why) = []

abbrev pub by_spend : Option ℕ → History
by_spend None = []
by_spend (Some n) = was_spent n ∷ []

abbrev pub by_take : {X : Type 0} → ℕ → Result X Refusal → History
by_take n (Ok x) = was_taken n ∷ []
by_take n (Err why) = []

-- What a tick adds, by who had it: a unit was spent on an errand that had it.
abbrev pub by_turn : Who → History
by_turn (ForErrand n) = was_spent n ∷ []
by_turn who = []

-- What a tick adds, by its answer.
abbrev pub by_tick : Answer → History
by_tick (Ticked k who) = by_turn who
by_tick answer = []

-- What a withdraw of n adds: n was taken out if units were answered.
abbrev pub by_withdraw : ℕ → Answer → History
by_withdraw n (Withdrawn units) = was_taken n ∷ []
by_withdraw n answer = []

-- What a call with its answer adds: an accepted request puts its errand, an accepted withdraw takes its number
-- out, a tick that an errand had spends a unit on it, and nothing else touches the queue.
abbrev pub by_call : Call → Answer → History
by_call (Request e) answer = cond (was_accepted answer) (was_put e ∷ []) []
by_call (Withdraw n) answer = by_withdraw n answer
by_call Tick answer = by_tick answer
by_call call answer = []

-- What happens to the queue in a run.
abbrev pub history : Trace → History
history [] = []
history (x ∷ xs) = by_call x.0 x.1 ++ history xs

-- Each tick that an errand had went to the one that the choice chooses after all that had happened to the queue by
-- then: its past before the run, and what the calls of the run before this tick added.
abbrev pub Chosen : Choice → History → Trace → Type 0
Chosen choice past trace =
    (before after : Trace) (slack n : ℕ)
    → trace ≡ before ++ (Tick, Ticked slack (ForErrand n)) ∷ after
    → choice (past ++ history before) ≡ Some n
