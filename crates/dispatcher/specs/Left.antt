-- What calls leave of the queue, by what they add to its history.
use Rattle.std.specs.Prelude.{◌≡◌, [], ◌∷◌}
use Rattle.model.specs.Histories.{History, by_call}
use Rattle.model.specs.Runs.{Trace}
use Rattle.model.specs.declared.calls.Call.{Call}
use Rattle.model.specs.declared.calls.Call.TheVariants.{Request, Withdraw, Tick}

module _ {Q : Type 0} where
  -- What the queue is after a call that adds so much to its history. After a request, a withdraw and a tick that an errand had it is
  -- what the queue says itself, by u. After any other tick, which adds nothing, and after any other call it is as it was.
  abbrev pub LeftBy : (Q → History → Q → Type 0) → Call → Q → History → Q → Type 0
  LeftBy u (Request e) q added q' = u q added q'
  LeftBy u (Withdraw n) q added q' = u q added q'
  LeftBy u Tick q [] q' = q' ≡ q
  LeftBy u Tick q (x ∷ xs) q' = u q (x ∷ xs) q'
  LeftBy u call q added q' = q' ≡ q

  -- The queue goes from q to q' call by call, and each call leaves of it what it has to.
  abbrev pub LeftAlong : (Q → History → Q → Type 0) → Q → Trace → Q → Type 0
  LeftAlong u q [] q' = q' ≡ q
  LeftAlong u q (x ∷ trace) q' = ((next : Q) × LeftBy u x.0 q (by_call x.0 x.1) next × LeftAlong u next trace q')
