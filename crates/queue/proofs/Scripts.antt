-- Over a queue that answers each call, every script has a run: its first call has an answer and a next state, and the rest goes on from
-- there.
use Rattle.std.proofs.Common.{◌≡◌, ℕ, List, [], ◌∷◌, ◌++◌, Some, sym, refl, ap, ◌∙◌, append_assoc, append-nil}
use Rattle.model.proofs.Histories.{chosen_none, step_named}
use Rattle.model.specs.Histories.{Choice, Chosen, History, by_call, history}
use Rattle.model.specs.Machine.{State}
use Rattle.model.specs.Queues.{Meaning}
use Rattle.model.specs.Runs.{Trace, stay, step}
use Rattle.model.specs.declared.calls.Answer.{Answer}
use Rattle.model.specs.declared.calls.Answer.TheVariants.{Ticked}
use Rattle.model.specs.declared.calls.Call.{Call}
use Rattle.model.specs.declared.calls.Call.TheVariants.{Tick}
use Rattle.model.specs.declared.calls.Who.TheVariants.{Errand as ForErrand}
use Rattle.queue.specs.Scripts.{RunOf}
use Rattle.queue.proofs.NextSteps.{AnswersCalls, next_of}

-- One call before the others: if it is a tick that an errand had, that errand is the one that the choice chooses.
chosen_first : (choice : Choice) (past : History) (call : Call) (answer : Answer) (rest : Trace)
    → ((slack n : ℕ) → call ≡ Tick → answer ≡ Ticked slack (ForErrand n) → choice past ≡ Some n)
    → Chosen choice (past ++ by_call call answer) rest
    → Chosen choice past ((call, answer) ∷ rest)
chosen_first choice past call answer rest one others [] after slack n is =
    let same : (call, answer) ≡ (Tick, Ticked slack (ForErrand n)) = cc in
    ap choice (append-nil past) ∙ one slack n (ap (λ (y : Call × Answer). y.0) same) (ap (λ (y : Call × Answer). y.1) same)
chosen_first choice past call answer rest one others (x ∷ before) after slack n is =
    let same : x ≡ (call, answer) = cc in
    let more : rest ≡ before ++ (Tick, Ticked slack (ForErrand n)) ∷ after = cc in
    ap (λ (y : Call × Answer). choice (past ++ (by_call y.0 y.1 ++ history before))) same
    ∙ ap choice (sym (append_assoc past (by_call call answer) (history before)))
    ∙ others before after slack n more

module _ (arises : History → Meaning → Type 0) (choice : Choice) (answering : AnswersCalls arises choice) where
  pub script_runs : (past : History) (s : State) → arises past s.queue → (script : List Call) → RunOf choice past s script
  script_runs past s arose [] =
      record { trace = []; end = s; run = stay; chosen = chosen_none choice past; made = refl }
  script_runs past s arose (call ∷ script) =
      let first = next_of arises choice answering past s arose call in
      let rest = script_runs (past ++ by_call call first.answer) first.next first.arose script in
      record {
        trace = (call, first.answer) ∷ rest.trace;
        end = rest.end;
        run = step first.one rest.run;
        chosen =
            chosen_first choice past call first.answer rest.trace
            (λ slack n tick had.
            sym (answering.chooses past s.queue arose) ∙ step_named s call first.answer first.next first.one slack n tick had)
            rest.chosen;
        made = ap (λ (cs : List Call). call ∷ cs) rest.made;
      }
