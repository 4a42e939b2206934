-- Histories, call by call: an errand that has a tick is the one that the queue named, so that ticks go by its choice.
use Rattle.std.proofs.Common.{◌≡◌, ℕ, Bool, true, false, [], ◌∷◌, ◌++◌, Some, None, Ok, Err, Option, sym, refl, ap, ◌∙◌, subst, append_assoc, append-nil, ⊎_elim}
use Rattle.std.proofs.lemmas.Bool.{both_ways}
use Rattle.model.specs.Histories.{Chosen, GoesOn, History, Choice, by_call, by_turn, history}
use Rattle.model.specs.Machine.{Work, State, Step, ServedOrLeft, SparedOrRun, duty_turn, errand_due, waits}
use Rattle.model.specs.Promise.{is_errand}
use Rattle.model.specs.Queues.{Meaning}
use Rattle.model.specs.Runs.{Trace}
use Rattle.model.specs.declared.calls.Answer.{Answer}
use Rattle.model.specs.declared.calls.Answer.TheVariants.{Ticked}
use Rattle.model.specs.declared.calls.Call.{Call}
use Rattle.model.specs.declared.calls.Call.TheVariants.{Tick}
use Rattle.model.specs.declared.calls.Who.{Who}
use Rattle.model.specs.declared.calls.Who.TheVariants.{Errand as ForErrand}
use Rattle.model.proofs.SpareTicks.{no_errand}
use Rattle.model.proofs.Ticks.{turn_cases}

-- The errand that has a tick is the one that the queue named.
turn_named :
    (due : Bool) (w : Work) (turn : Option Who) (m m' : Meaning) (n : ℕ) (w' : Work)
    → SparedOrRun due w turn w' → ServedOrLeft turn m (ForErrand n) m' → m.named ≡ Some n
turn_named due w None m m' n w' used (k, had, spent) =
    let same : n ≡ k = cc in spent.0 ∙ ap Some (sym same)
turn_named true w (Some who) m m' n w' (spared, then) left = cc
turn_named false w (Some who) m m' n w' (worked, then) (had, queue-stays) =
    let same : who ≡ duty_turn w = cc in
    absurd (both_ways (is_errand (ForErrand n)) (ap is_errand (had ∙ same) ∙ no_errand w) refl)

tick_named :
    (s : State) (slack n : ℕ) (s' : State) → Step s Tick (Ticked slack (ForErrand n)) s' → s.queue.named ≡ Some n
tick_named s slack n s' (Ok pair, answered, (turn, (room, slack-is, used), served)) =
    let same : pair.1 ≡ ForErrand n = cc in
    turn_named (errand_due s.work (waits s.queue)) s.work turn s.queue s'.queue n s'.work used
    (subst (λ (who : Who). ServedOrLeft turn s.queue who s'.queue) same served)
tick_named s slack n s' (Err why, answered, refused) =
    cc

pub step_named :
    (s : State) (call : Call) (answer : Answer) (s' : State) → Step s call answer s'
    → (slack n : ℕ) → call ≡ Tick → answer ≡ Ticked slack (ForErrand n) → s.queue.named ≡ Some n
step_named s call answer s' one slack n tick ticked =
    tick_named s slack n s'
    (subst (λ (a : Answer). Step s Tick a s') ticked (subst (λ (c : Call). Step s c answer s') tick one))

-- A tick that is not to spare adds nothing to a queue's history: it names no errand.
pub run_adds_nothing :
    (due : Bool) (w : Work) (who : Who) (w' : Work) → SparedOrRun due w (Some who) w' → by_turn who ≡ []
run_adds_nothing true w who w' (spared, then) = cc
run_adds_nothing false w who w' (worked, then) =
    let same : who ≡ duty_turn w = cc in
    rw same
    (⊎_elim
    (λ (none, idle). rw (none, duty_turn) refl)
    (λ (k, found, first). rw (found, duty_turn) refl)
    (turn_cases w.rows))

-- A queue that stays as it was goes on with nothing added.
pub stays_on : {Q : Type 0} (arises : History → Q → Type 0) (q q' : Q) → q' ≡ q → GoesOn arises q [] q'
stays_on arises q q' same past arose =
    subst (λ k. arises (past ++ []) k) (sym same) (subst (λ (h : History). arises h q) (sym (append-nil past)) arose)

pub goes_on_more : {Q : Type 0} (arises : History → Q → Type 0) (q q' q'' : Q) (added more : History)
    → GoesOn arises q added q' → GoesOn arises q' more q'' → GoesOn arises q (added ++ more) q''
goes_on_more arises q q' q'' added more first then past arose =
    subst (λ (h : History). arises h q'') (append_assoc past added more) (then (past ++ added) (first past arose))

-- What one call more adds to a history.
pub history_more : (trace : Trace) (call : Call) (answer : Answer) →
    history (trace ++ (call, answer) ∷ []) ≡ history trace ++ by_call call answer
history_more [] call answer = append-nil (by_call call answer)
history_more (x ∷ trace) call answer =
    ap (λ (h : History). by_call x.0 x.1 ++ h) (history_more trace call answer)
    ∙ sym (append_assoc (by_call x.0 x.1) (history trace) (by_call call answer))

pub chosen_none : (choice : Choice) (past : History) → Chosen choice past []
chosen_none choice past [] after slack n is = cc
chosen_none choice past (x ∷ before) after slack n is = cc

-- One call more: if it is a tick that an errand had, that errand is the one that the choice chooses.
pub chosen_more : (choice : Choice) (past : History) (trace : Trace) (call : Call) (answer : Answer)
    → Chosen choice past trace
    → ((slack n : ℕ) → call ≡ Tick → answer ≡ Ticked slack (ForErrand n) → choice (past ++ history trace) ≡ Some n)
    → Chosen choice past (trace ++ (call, answer) ∷ [])
chosen_more choice past [] call answer all one [] after slack n is =
    let same : (call, answer) ≡ (Tick, Ticked slack (ForErrand n)) = cc in
    one slack n (ap (λ (y : Call × Answer). y.0) same) (ap (λ (y : Call × Answer). y.1) same)
chosen_more choice past [] call answer all one (y ∷ []) after slack n is =
    cc
chosen_more choice past [] call answer all one (y ∷ z ∷ before) after slack n is =
    cc
chosen_more choice past (x ∷ trace) call answer all one [] after slack n is =
    all [] trace slack n (let same : x ≡ (Tick, Ticked slack (ForErrand n)) = cc in ap (λ (y : Call × Answer). y ∷ trace) same)
chosen_more choice past (x ∷ trace) call answer all one (y ∷ before) after slack n is =
    let same : y ≡ x = cc in
    let rest : trace ++ (call, answer) ∷ [] ≡ before ++ (Tick, Ticked slack (ForErrand n)) ∷ after = cc in
    let assoc : (part : Trace) → past ++ (by_call x.0 x.1 ++ history part) ≡ (past ++ by_call x.0 x.1) ++ history part =
    λ part. sym (append_assoc past (by_call x.0 x.1) (history part)) in
    let here =
    chosen_more choice (past ++ by_call x.0 x.1) trace call answer
    (λ before₁ after₁ slack₁ n₁ is₁. ap choice (sym (assoc before₁)) ∙ all (x ∷ before₁) after₁ slack₁ n₁ (ap (λ (t : Trace). x ∷ t) is₁))
    (λ slack₁ n₁ tick ticked. ap choice (sym (assoc trace)) ∙ one slack₁ n₁ tick ticked)
    before after slack n rest in
    ap (λ (z : Call × Answer). choice (past ++ (by_call z.0 z.1 ++ history before))) same ∙ (ap choice (assoc before) ∙ here)
