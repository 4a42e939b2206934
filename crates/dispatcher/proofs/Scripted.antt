-- A script that is carried out call by call: what each call adds to the run, to the trace of the script, and to what is known
-- of the queue.
use Rattle.std.proofs.Common.{◌≡◌, ℕ, ◌+◌, ◌<◌, List, [], ◌∷◌, ◌++◌, length, get_or, take, set, sym, refl, ap, ◌∙◌, subst}
use Rattle.std.proofs.lemmas.List.{get_or-map, map_push, map-set, set-get_or, take_more_set}
use Rattle.model.specs.Histories.{History, by_call, history}
use Rattle.model.specs.Machine.{State, Step}
use Rattle.model.specs.Runs.{Run, Trace, stay, step}
use Rattle.model.specs.declared.calls.Answer.{Answer}
use Rattle.model.specs.declared.calls.Answer.TheVariants.{Accepted}
use Rattle.model.specs.declared.calls.Call.{Call}
use Rattle.model.specs.declared.calls.Call.TheVariants.{Release, Done, Request, Withdraw, Slack, Tick}
use Rattle.queue.specs.Untouched.{Left, more}
use Rattle.dispatcher.specs.Left.{LeftAlong, LeftBy}
use Rattle.dispatcher.specs.Scripts.{call_of, calls_of, event_of, trace_of}
use Rattle.dispatcher.specs.declared.entries.Entry.{Entry}

-- One step more of a run.
pub run_more : {s s' s'' : State} {trace : Trace} (call : Call) (answer : Answer)
    → Run s trace s' → Step s' call answer s'' → Run s (trace ++ (call, answer) ∷ []) s''
run_more call answer stay next = step next stay
run_more call answer (step first rest) next = step first (run_more call answer rest next)

both_empty : {A : Type 0} (xs ys : List A) → xs ++ ys ≡ [] → (xs ≡ []) × (ys ≡ [])
both_empty [] ys none = (refl, none)
both_empty (x ∷ xs) ys none = cc

module _ {Q : Type 0} (u : Q → History → Q → Type 0) where
  -- One call more of a queue that is left call by call.
  pub left_more : (q q' q'' : Q) (trace : Trace) (call : Call) (answer : Answer)
      → LeftAlong u q trace q'
      → LeftBy u call q' (by_call call answer) q''
      → LeftAlong u q (trace ++ (call, answer) ∷ []) q''
  left_more q q' q'' [] call answer same next =
      (q'', subst (λ k. LeftBy u call k (by_call call answer) q'') same next, refl)
  left_more q q' q'' (x ∷ trace) call answer (between, first, rest) next =
      (between, first, left_more between q' q'' trace call answer rest next)

  -- A queue that is left call by call, with nothing added to its history, is left by calls that add nothing alone.
  left_on : (start q q' : Q) (call : Call) → Left (λ k r. u k [] r) start q → LeftBy u call q [] q' → Left (λ k r. u k [] r) start q'
  left_on start q q' (Release i) left same = subst (Left (λ k r. u k [] r) start) (sym same) left
  left_on start q q' (Done i) left same = subst (Left (λ k r. u k [] r) start) (sym same) left
  left_on start q q' (Request e) left one = more left one
  left_on start q q' (Withdraw n) left one = more left one
  left_on start q q' Slack left same = subst (Left (λ k r. u k [] r) start) (sym same) left
  left_on start q q' Tick left same = subst (Left (λ k r. u k [] r) start) (sym same) left

  pub left_along : (start q q' : Q) (trace : Trace)
      → Left (λ k r. u k [] r) start q → LeftAlong u q trace q' → history trace ≡ [] → Left (λ k r. u k [] r) start q'
  left_along start q q' [] left same nothing = subst (Left (λ k r. u k [] r) start) (sym same) left
  left_along start q q' (x ∷ trace) left (next, first, rest) nothing =
      let (here, later) = both_empty (by_call x.0 x.1) (history trace) nothing in
      let first' : LeftBy u x.0 q [] next = subst (λ (added : History). LeftBy u x.0 q added next) here first in
      left_along start next q' trace (left_on start q next x.0 left first') rest later

abbrev pub no_entry : Entry
no_entry = record { call = Release 0; answer = Accepted }

module _ (script : List Entry) (i : ℕ) (answer : Answer) (short : i < length script) where
  -- The entry with its answer.
  abbrev pub answered : Entry
  answered = record { call = (get_or script i no_entry).call; answer = answer }

  -- One answer more of a script.
  pub trace_more : trace_of (take (i + 1) (set script i answered)) ≡ trace_of (take i script) ++ event_of answered ∷ []
  trace_more = ap trace_of (take_more_set script i answered short) ∙ map_push event_of (take i script) answered

  -- An answer written beside its call leaves the calls.
  pub calls_stay : calls_of (set script i answered) ≡ calls_of script
  calls_stay =
      map-set call_of script i answered
      ∙ ap (set (calls_of script) i) (sym (get_or-map call_of script i no_entry (Release 0) short))
      ∙ set-get_or (calls_of script) i (Release 0)
