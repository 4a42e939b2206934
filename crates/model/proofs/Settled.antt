-- Two runs of the same calls from the same state are compared call by call. As long as the same errands had the ticks, the answers
-- are the same, and the states differ at most in the order in which the errands that wait are listed, and in which is named.
use Rattle.std.proofs.Common.{◌≡◌, ℕ, ◌+◌, Bool, true, false, cond, not, nat_le, List, [], ◌∷◌, ◌++◌, length, is_some, Some, None, Ok, Err, Option, Result, sym, refl, ap, ◌∙◌, subst, ⊎_elim, append_assoc, arith}
use Rattle.std.proofs.lemmas.Bool.{cases_eq}
use Rattle.model.specs.Histories.{Choice, Chosen, History, by_call, history}
use Rattle.model.specs.Machine.{Work, State, Step, RowCalled, ServedOrLeft, SparedOrRun, Ticks, call_refusal, errand_due, plain_answer, slack_of, tick_answer, units_answer, waits}
use Rattle.model.specs.Queues.{Changes, Meaning, Put, Sound, Take, errand_within, look, one_less, put_refusal}
use Rattle.model.specs.Refusals.{refusal_code}
use Rattle.model.specs.Runs.{Run, Trace, calls_in, stay, step}
use Rattle.model.specs.Settled.{ChoiceSettlesRuns}
use Rattle.model.specs.declared.calls.Answer.{Answer}
use Rattle.model.specs.declared.calls.Answer.TheVariants.{Slack as SlackIs, Ticked}
use Rattle.model.specs.declared.calls.Call.{Call}
use Rattle.model.specs.declared.calls.Call.TheVariants.{Release, Done, Request, Withdraw, Slack, Tick}
use Rattle.model.specs.declared.calls.Who.{Who}
use Rattle.model.specs.declared.calls.Who.TheVariants.{Errand as ForErrand}
use Rattle.model.specs.declared.errands.Errand.{Errand}
use Rattle.model.specs.declared.refusals.Refusal.{Refusal}
use Rattle.model.specs.declared.rows.RowCall.{RowCall}
use Rattle.model.specs.declared.rows.RowCall.TheVariants.{Release as RowRelease, Done as RowDone}
use Rattle.model.proofs.RefusalCodes.{refusal_code_apart, refusal_code_some}
use Rattle.model.proofs.Sums.{sum_same}
use Rattle.model.proofs.Weights.{list_bound, total_weight, weight_of, weight_of_all_numbers}

-- Queues that hold the same errands.
record SameErrands (m n : Meaning) : Type 0 where
  looks : (k : ℕ) → look m.waiting k ≡ look n.waiting k
  places : m.places ≡ n.places
  sound : Sound m
  sound' : Sound n

-- As many wait in both, since as many wait under each number.
counted : (es : List Errand) → total_weight (λ _. 1) es ≡ length es
counted [] = refl
counted (e ∷ es) = omega (arith, counted es)

same_errands_length : (m n : Meaning) → SameErrands m n → length m.waiting ≡ length n.waiting
same_errands_length m n like =
    let one : Errand → ℕ = λ _. 1 in
    let bound = list_bound m.waiting + list_bound n.waiting in
    omega (
      arith,
      counted m.waiting,
      counted n.waiting,
      weight_of_all_numbers one bound m.waiting like.sound.each_once (omega arith),
      weight_of_all_numbers one bound n.waiting like.sound'.each_once (omega arith),
      sum_same (λ k. weight_of one (look m.waiting k)) (λ k. weight_of one (look n.waiting k)) bound
          (λ k h. ap (weight_of one) (like.looks k)),
    )

waits_by_length : (es fs : List Errand) (m n : Meaning) → m.waiting ≡ es → n.waiting ≡ fs → length es ≡ length fs →
    waits m ≡ waits n
waits_by_length [] [] m n p q h = cc
waits_by_length [] (f ∷ fs) m n p q h = absurd (omega (arith, h))
waits_by_length (e ∷ es) [] m n p q h = absurd (omega (arith, h))
waits_by_length (e ∷ es) (f ∷ fs) m n p q h = cc

same_errands_waits : (m n : Meaning) → SameErrands m n → waits m ≡ waits n
same_errands_waits m n like = waits_by_length m.waiting n.waiting m n refl refl (same_errands_length m n like)

same_errands_changes : (m n m' n' : Meaning) (k : ℕ) (o o' : Option Errand) → SameErrands m n → o ≡ o' → Changes m k o m' → Changes n k o' n' →
    SameErrands m' n'
same_errands_changes m n m' n' k o o' like same change change' =
    record {
      looks = λ j.
          ⊎_elim (λ (is : j ≡ k). subst (λ i. look m'.waiting i ≡ look n'.waiting i) (sym is) (change.here ∙ same ∙ sym change'.here))
          (λ (other : j ≡ k → ⊥). change.others j other ∙ like.looks j ∙ sym (change'.others j other))
          (cases_eq j k);
      places = change.places_stay ∙ like.places ∙ sym change'.places_stay;
      sound = change.sound;
      sound' = change'.sound;
    }

same_errands_moved : (m n m' n' : Meaning) → m' ≡ m → n' ≡ n → SameErrands m n → SameErrands m' n'
same_errands_moved m n m' n' p q like = subst (λ k. SameErrands k n') (sym p) (subst (λ k. SameErrands m k) (sym q) like)

-- States that differ in no more than how their queues hold the same errands, and in which of them those name.
record Alike (s t : State) : Type 0 where
  work : s.work ≡ t.work
  queue : SameErrands s.queue t.queue

alike_moved : (s t s' t' : State) → s' ≡ s → t' ≡ t → Alike s t → Alike s' t'
alike_moved s t s' t' p q alike = subst (λ k. Alike k t') (sym p) (subst (λ k. Alike s k) (sym q) alike)

-- What is refused in the one is refused in the other, for the same reason.
not_refused : {A : Type 0} (r r' : List ℕ) (why : Refusal) → r ≡ r' → r ≡ [] → r' ≡ refusal_code why → A
not_refused r r' why same none some =
    let (n, ns, is) = refusal_code_some why in
    let z : ◌≡◌ {A = List ℕ} [] (n ∷ ns) = sym none ∙ same ∙ some ∙ is in cc

same_refusal : (r r' : List ℕ) (why why' : Refusal) → r ≡ r' → r ≡ refusal_code why → r' ≡ refusal_code why' → why ≡ why'
same_refusal r r' why why' same p q = refusal_code_apart why why' (sym p ∙ same ∙ q)

-- From the same work a call to a row, and a tick, have one answer each and leave one work.
called_settled :
    (w v' w' : Work) (i : ℕ) (call : RowCall) (r r' : Result (Unit {0}) Refusal)
    → RowCalled w i call r v' → RowCalled w i call r' w' → (r ≡ r') × (v' ≡ w')
called_settled w v' w' i call (Ok x) (Ok y) one one' = (refl, one.1 ∙ sym one'.1)
called_settled w v' w' i call (Ok x) (Err why) one one' = not_refused (call_refusal w i call) _ why refl one.0 one'.0
called_settled w v' w' i call (Err why) (Ok x) one one' = not_refused (call_refusal w i call) _ why refl one'.0 one.0
called_settled w v' w' i call (Err why) (Err why') one one' =
    (ap Err (refusal_code_apart why why' (sym one.0 ∙ one'.0)), one.1 ∙ sym one'.1)

tick_settled :
    (due : Bool) (w v' w' : Work) (turn turn' : Option Who)
    → SparedOrRun due w turn v' → SparedOrRun due w turn' w' → (turn ≡ turn') × (v' ≡ w')
tick_settled true w v' w' turn turn' one one' = (one.0 ∙ sym one'.0, one.1 ∙ sym one'.1)
tick_settled false w v' w' turn turn' one one' = (one.0 ∙ sym one'.0, one.1 ∙ sym one'.1)

same_put_refusal : (m n : Meaning) (e : Errand) → SameErrands m n → put_refusal m e ≡ put_refusal n e
same_put_refusal m n e like =
    let refusal : Option Errand → ℕ → ℕ → List ℕ =
    λ found places held.
    cond (not (errand_within e)) (8 ∷ []) (cond (is_some found) (9 ∷ []) (cond (nat_le places held) (10 ∷ []) [])) in
    ap (λ (found : Option Errand). refusal found m.places (length m.waiting)) (like.looks e.number)
    ∙ ap (λ (places : ℕ). refusal (look n.waiting e.number) places (length m.waiting)) like.places
    ∙ ap (λ (held : ℕ). refusal (look n.waiting e.number) n.places held) (same_errands_length m n like)

put_alike : (m n m' n' : Meaning) (e : Errand) (r r' : Result (Unit {0}) Refusal) → SameErrands m n → Put m e r m' → Put n e r' n' →
    (r ≡ r') × SameErrands m' n'
put_alike m n m' n' e (Ok x) (Ok y) like one one' =
    (refl, same_errands_changes m n m' n' e.number (Some e) (Some e) like refl one.1 one'.1)
put_alike m n m' n' e (Ok x) (Err why) like one one' = not_refused _ _ why (same_put_refusal m n e like) one.0 one'.0
put_alike m n m' n' e (Err why) (Ok x) like one one' = not_refused _ _ why (sym (same_put_refusal m n e like)) one'.0 one.0
put_alike m n m' n' e (Err why) (Err why') like one one' = (
  ap Err (same_refusal _ _ why why' (same_put_refusal m n e like) one.0 one'.0),
  same_errands_moved m n m' n' one.1 one'.1 like,
)

take_alike : (m n m' n' : Meaning) (k : ℕ) (r r' : Result ℕ Refusal) → SameErrands m n → Take m k r m' → Take n k r' n' →
    (r ≡ r') × SameErrands m' n'
take_alike m n m' n' k (Ok units) (Ok units') like (e, found, is, change) (e', found', is', change') =
    let found-same : Some e ≡ Some e' = sym found ∙ like.looks k ∙ found' in
    let same : e ≡ e' = cc in
    (ap Ok (is ∙ ap (λ x. x.units) same ∙ sym is'), same_errands_changes m n m' n' k None None like refl change change')
take_alike m n m' n' k (Ok units) (Err why) like (e, found, is, change) (none, number, stays) =
    let z : Some e ≡ None = sym found ∙ like.looks k ∙ none in cc
take_alike m n m' n' k (Err why) (Ok units) like (none, number, stays) (e, found, is, change) =
    let z : None ≡ Some e = sym none ∙ like.looks k ∙ found in cc
take_alike m n m' n' k (Err why) (Err why') like (none, number, stays) (none', number', stays') =
    (ap Err (refusal_code_apart why why' (number ∙ sym number')), same_errands_moved m n m' n' stays stays' like)

-- What the tick asks of the queue: where an errand has both ticks, it is the same.
served_alike :
    (turn : Option Who) (m n m' n' : Meaning) (who who' : Who)
    → SameErrands m n
    → ((k k' : ℕ) → who ≡ ForErrand k → who' ≡ ForErrand k' → k ≡ k')
    → ServedOrLeft turn m who m' → ServedOrLeft turn n who' n' → (who ≡ who') × SameErrands m' n'
served_alike None m n m' n' who who' like agree (k, is, (named, (e, found, change))) (k', is', (named', (e', found', change'))) =
    let same : k ≡ k' = agree k k' is is' in
    let found-same : Some e ≡ Some e' = sym found ∙ like.looks k ∙ ap (look n.waiting) same ∙ found' in
    let errand : e ≡ e' = cc in (
      is ∙ ap ForErrand same ∙ sym is',
      same_errands_changes m n m' n' k (one_less e) (one_less e') like (ap one_less errand) change
          (subst (λ (j : ℕ). Changes n j (one_less e') n') (sym same) change'),
    )
served_alike (Some had) m n m' n' who who' like agree (is, stays) (is', stays') =
    (is ∙ sym is', same_errands_moved m n m' n' stays stays' like)

same_pair : (slack slack' : ℕ) (who who' : Who) → slack ≡ slack' → who ≡ who' → ◌≡◌ {A = Result (ℕ × Who) Refusal} (Ok (slack, who)) (Ok (slack', who'))
same_pair slack slack' who who' p q = cc

tick_alike :
    (s t s' t' : State) (r r' : Result (ℕ × Who) Refusal) → Alike s t
    → ((slack n slack' n' : ℕ) → r ≡ Ok (slack, ForErrand n) → r' ≡ Ok (slack', ForErrand n') → n ≡ n')
    → Ticks s r s' → Ticks t r' t' → (r ≡ r') × Alike s' t'
tick_alike s t s' t' (Ok (slack, who)) (Ok (slack', who')) alike agree
    (turn, (room, is, used), served) (turn', (room', is', used'), served') =
    let due = errand_due s.work (waits s.queue) in
    let due-same : due ≡ errand_due t.work (waits t.queue) =
    ◌∙◌ {b = errand_due s.work (waits t.queue)}
    (ap (λ (b : Bool). errand_due s.work b) (same_errands_waits s.queue t.queue alike.queue))
    (ap (λ (w : Work). errand_due w (waits t.queue)) alike.work) in
    let used-here : SparedOrRun due s.work turn' t'.work =
    subst (λ (w : Work). SparedOrRun due w turn' t'.work) (sym alike.work)
    (subst (λ (b : Bool). SparedOrRun b t.work turn' t'.work) (sym due-same) used') in
    let (turns, after) = tick_settled due s.work s'.work t'.work turn turn' used used-here in
    let (had, like) =
    served_alike turn s.queue t.queue s'.queue t'.queue who who' alike.queue
    (λ n n' p p'. agree slack n slack' n' (ap (λ (w : Who). Ok (slack, w)) p) (ap (λ (w : Who). Ok (slack', w)) p')) served
    (subst (λ (o : Option Who). ServedOrLeft o t.queue who' t'.queue) (sym turns) served') in
    let same : slack ≡ slack' = is ∙ ap slack_of alike.work ∙ sym is' in
    (same_pair slack slack' who who' same had, record { work = after; queue = like })
tick_alike s t s' t' (Ok answer) (Err why) alike agree (turn, (room, is, used), served) ((ended, number, stays), queue-stays) =
    absurd (omega (arith, room, ended, ap (λ (w : Work). w.clock) alike.work))
tick_alike s t s' t' (Err why) (Ok answer) alike agree ((ended, number, stays), queue-stays) (turn, (room, is, used), served) =
    absurd (omega (arith, room, ended, ap (λ (w : Work). w.clock) alike.work))
tick_alike s t s' t' (Err why) (Err why') alike agree ((ended, number, stays), queue-stays) ((ended', number', stays'), queue-stays') = (
  ap Err (refusal_code_apart why why' (number ∙ sym number')),
  record {
    work = stays ∙ alike.work ∙ sym stays';
    queue = same_errands_moved s.queue t.queue s'.queue t'.queue queue-stays queue-stays' alike.queue;
  },
)

row_alike :
    (s t s' t' : State) (i : ℕ) (call : RowCall) (r r' : Result (Unit {0}) Refusal) → Alike s t
    → RowCalled s.work i call r s'.work → s'.queue ≡ s.queue → RowCalled t.work i call r' t'.work → t'.queue ≡ t.queue
    → (r ≡ r') × Alike s' t'
row_alike s t s' t' i call r r' alike one stays one' stays' =
    let (same, after) =
    called_settled s.work s'.work t'.work i call r r' one
    (subst (λ (w : Work). RowCalled w i call r' t'.work) (sym alike.work) one') in
    (same, record { work = after; queue = same_errands_moved s.queue t.queue s'.queue t'.queue stays stays' alike.queue })

step_alike :
    (s t s' t' : State) (call : Call) (a b : Answer) → Alike s t
    → ((slack n slack' n' : ℕ) → call ≡ Tick → a ≡ Ticked slack (ForErrand n) → b ≡ Ticked slack' (ForErrand n') → n ≡ n')
    → Step s call a s' → Step t call b t' → (a ≡ b) × Alike s' t'
step_alike s t s' t' (Release i) a b alike agree (r, is, one, stays) (r', is', one', stays') =
    let (same, after) = row_alike s t s' t' i RowRelease r r' alike one stays one' stays' in
    (is ∙ ap plain_answer same ∙ sym is', after)
step_alike s t s' t' (Done i) a b alike agree (r, is, one, stays) (r', is', one', stays') =
    let (same, after) = row_alike s t s' t' i RowDone r r' alike one stays one' stays' in
    (is ∙ ap plain_answer same ∙ sym is', after)
step_alike s t s' t' (Request e) a b alike agree (r, is, (put, stays)) (r', is', (put', stays')) =
    let (same, like) = put_alike s.queue t.queue s'.queue t'.queue e r r' alike.queue put put' in
    (is ∙ ap plain_answer same ∙ sym is', record { work = stays ∙ alike.work ∙ sym stays'; queue = like })
step_alike s t s' t' (Withdraw k) a b alike agree (r, is, (take, stays)) (r', is', (take', stays')) =
    let (same, like) = take_alike s.queue t.queue s'.queue t'.queue k r r' alike.queue take take' in
    (is ∙ ap units_answer same ∙ sym is', record { work = stays ∙ alike.work ∙ sym stays'; queue = like })
step_alike s t s' t' Slack a b alike agree (is, stays) (is', stays') =
    (is ∙ ap (λ (w : Work). SlackIs (slack_of w)) alike.work ∙ sym is', alike_moved s t s' t' stays stays' alike)
step_alike s t s' t' Tick a b alike agree (r, is, ticked) (r', is', ticked') =
    let (same, after) =
    tick_alike s t s' t' r r' alike
    (λ slack n slack' n' p p'. agree slack n slack' n' refl (is ∙ ap tick_answer p) (is' ∙ ap tick_answer p')) ticked ticked' in
    (is ∙ ap tick_answer same ∙ sym is', after)

-- What was chosen in a run was chosen in the rest of it.
chosen_rest : (choice : Choice) (past : History) (call : Call) (answer : Answer) (rest : Trace) →
    Chosen choice past ((call, answer) ∷ rest) → Chosen choice (past ++ by_call call answer) rest
chosen_rest choice past call answer rest chosen before after slack n is =
    ap choice (append_assoc past (by_call call answer) (history before))
    ∙ chosen ((call, answer) ∷ before) after slack n (ap (λ (t : Trace). (call, answer) ∷ t) is)

-- The errand of a tick that comes first was chosen.
chosen_first : (choice : Choice) (past : History) (call : Call) (answer : Answer) (rest : Trace) (slack n : ℕ) →
    Chosen choice past ((call, answer) ∷ rest) → call ≡ Tick → answer ≡ Ticked slack (ForErrand n) →
    choice (past ++ []) ≡ Some n
chosen_first choice past call answer rest slack n chosen tick ticked =
    chosen [] rest slack n
    (ap (λ (c : Call). (c, answer) ∷ rest) tick ∙ ap (λ (a : Answer). (Tick, a) ∷ rest) ticked)

same_number : (o : Option ℕ) (n k : ℕ) → o ≡ Some n → o ≡ Some k → n ≡ k
same_number o n k p q = let same : Some n ≡ Some k = sym p ∙ q in cc

settled :
    (choice : Choice) (past : History) (s t : State) (trace trace' : Trace) (end end' : State) → Alike s t
    → Run s trace end → Run t trace' end' → Chosen choice past trace → Chosen choice past trace'
    → calls_in trace ≡ calls_in trace' → trace ≡ trace'
settled choice past s t trace trace' end end' alike stay stay chosen chosen' calls = refl
settled choice past s t trace trace' end end' alike stay (step one more) chosen chosen' calls = cc
settled choice past s t trace trace' end end' alike (step one more) stay chosen chosen' calls = cc
settled choice past s t trace trace' end end' alike
    (step {s' = s'} {call = call} {answer = a} {rest = rest} one more)
    (step {s' = t'} {call = call'} {answer = b} {rest = rest'} one' more') chosen chosen' calls =
    let same-call : call ≡ call' = cc in
    let same-calls : calls_in rest ≡ calls_in rest' = cc in
    let next : Step t call b t' = subst (λ (c : Call). Step t c b t') (sym same-call) one' in
    let picked : Chosen choice past ((call, b) ∷ rest') =
    subst (λ (c : Call). Chosen choice past ((c, b) ∷ rest')) (sym same-call) chosen' in
    let (same, after) =
    step_alike s t s' t' call a b alike
    (λ slack n slack' n' tick p p'.
    same_number (choice (past ++ [])) n n' (chosen_first choice past call a rest slack n chosen tick p)
    (chosen_first choice past call b rest' slack' n' picked tick p')) one next in
    let others =
    settled choice (past ++ by_call call a) s' t' rest rest' end end' after more more'
    (chosen_rest choice past call a rest chosen)
    (subst (λ (x : Answer). Chosen choice (past ++ by_call call x) rest') (sym same)
    (chosen_rest choice past call b rest' picked)) same-calls in
    ap (λ (c : Call). (c, a) ∷ rest) same-call ∙ ap (λ (x : Answer). (call', x) ∷ rest) same
    ∙ ap (λ (xs : Trace). (call', b) ∷ xs) others

pub choice_settles_runs : ChoiceSettlesRuns
choice_settles_runs start choice past trace trace' end end' sound run run' chosen chosen' calls =
    settled choice past start start trace trace' end end'
    (record { work = refl; queue = record { looks = λ k. refl; places = refl; sound = sound; sound' = sound } })
    run run' chosen chosen' calls
