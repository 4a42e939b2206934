-- Whatever refuses a call by the machine's definition is the code of a refusal, so that there is an answer to give.
use Rattle.std.proofs.Common.{◌≡◌, ℕ, ◌<◌, Bool, true, false, cond, not, leb, ltb, List, [], ◌∷◌, length, is_some, None, Ok, Err, Result, refl}
use Rattle.std.proofs.lemmas.Bool.{leb-false, not-false}
use Rattle.model.specs.Demand.{row_at}
use Rattle.model.specs.Machine.{Work, call_refusal, row_refusal}
use Rattle.model.specs.Queues.{Meaning, errand_within, look, put_refusal}
use Rattle.model.specs.Refusals.{refusal}
use Rattle.model.specs.declared.errands.Errand.{Errand}
use Rattle.model.specs.declared.refusals.Refusal.{Refusal}
use Rattle.model.specs.declared.refusals.Refusal.TheVariants.{AlreadyWaiting, ErrandLimits, NoPlace, NoSuchRow, RowIdle, TooSoon}
use Rattle.model.specs.declared.rows.Row.{Row}
use Rattle.model.specs.declared.rows.Row.TheVariants.{Idle, Ready}
use Rattle.model.specs.declared.rows.RowCall.{RowCall}
use Rattle.model.specs.declared.rows.RowCall.TheVariants.{Release as RowRelease, Done as RowDone, Tick as RowTick}
use Rattle.queue.proofs.Lookups.{none_from_test}

-- The numbers are those of some refusal, or there are none and the call is accepted.
abbrev pub IsRefusal : List ℕ → Type 0
IsRefusal ns = (r : Result (Unit {0}) Refusal) × (ns ≡ refusal r)

pub either_refusal : (b : Bool) (ns ms : List ℕ) → IsRefusal ns → IsRefusal ms → IsRefusal (cond b ns ms)
either_refusal true ns ms first second = first
either_refusal false ns ms first second = second

-- So are those that refuse a call to a row,
row_refusal_is : (clock : ℕ) (row : Row) (call : RowCall) → IsRefusal (row_refusal clock row call)
row_refusal_is clock (Idle e) RowRelease = either_refusal (ltb clock e) _ _ (Err TooSoon, refl) (Ok tt, refl)
row_refusal_is clock (Ready c d e) RowRelease = either_refusal (ltb clock e) _ _ (Err TooSoon, refl) (Ok tt, refl)
row_refusal_is clock (Idle e) RowDone = (Err RowIdle, refl)
row_refusal_is clock (Ready c d e) RowDone = (Ok tt, refl)
row_refusal_is clock (Idle e) RowTick = (Ok tt, refl)
row_refusal_is clock (Ready c d e) RowTick = (Ok tt, refl)

pub call_refusal_is : (w : Work) (i : ℕ) (call : RowCall) → IsRefusal (call_refusal w i call)
call_refusal_is w i call =
    either_refusal (ltb i (length w.rows)) _ _ (row_refusal_is w.clock (row_at w.rows i) call) (Err NoSuchRow, refl)

-- Where neither a test nor what comes after it gives a number, the test failed.
neither_refuses : (b : Bool) (n : ℕ) (rest : List ℕ) → cond b (n ∷ []) rest ≡ [] → (b ≡ false) × (rest ≡ [])
neither_refuses true n rest e = cc
neither_refuses false n rest e = (refl, e)

module _ (m : Meaning) (e : Errand) where
  -- and those that refuse a put.
  pub put_refusal_is : IsRefusal (put_refusal m e)
  put_refusal_is =
      either_refusal (not (errand_within e)) _ _ (Err ErrandLimits, refl)
      (either_refusal (is_some (look m.waiting e.number)) _ _ (Err AlreadyWaiting, refl)
      (either_refusal (leb m.places (length m.waiting)) _ _ (Err NoPlace, refl) (Ok tt, refl)))

  -- A put that none of them refuses is of an errand within its limits whose number does not wait, and there is a place.
  pub put_accepted : put_refusal m e ≡ []
      → (errand_within e ≡ true) × (look m.waiting e.number ≡ None) × (length m.waiting < m.places)
  put_accepted accepted =
      let sizes = neither_refuses _ 8 _ accepted in
      let numbers = neither_refuses _ 9 _ sizes.1 in
      let room = neither_refuses _ 10 _ numbers.1 in
      (not-false _ sizes.0, none_from_test _ numbers.0, leb-false _ _ room.0)
