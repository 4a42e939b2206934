-- The queue after each history, with the errand of a choice named. It answers each call, so every script has a run over it.
use Rattle.std.proofs.Common.{◌≡◌, ℕ, ◌≤◌, true, List, [], ◌∷◌, ◌++◌, length, Some, None, Ok, Err, Option, Result, sym, refl, ap, ◌∙◌, subst, arith, length-append}
use Rattle.std.specs.List.{filter_map}
use Rattle.std.proofs.lemmas.List.{map_push}
use Rattle.model.proofs.Searches.{some_is}
use Rattle.model.proofs.Histories.{stays_on}
use Rattle.model.specs.Histories.{Choice, Event, History, by_put, by_spend, by_take, was_put, was_spent, was_taken}
use Rattle.model.specs.Machine.{fresh}
use Rattle.model.specs.Queues.{Changes, Meaning, Put, Sound, Spend, Take, distinct, look, names_right, one_less, put_refusal}
use Rattle.model.specs.Refusals.{refusal}
use Rattle.model.specs.declared.calls.Call.{Call}
use Rattle.model.specs.declared.duties.Duty.{Duty}
use Rattle.model.specs.declared.errands.Errand.{Errand}
use Rattle.model.specs.declared.refusals.Refusal.{Refusal}
use Rattle.model.specs.declared.refusals.Refusal.TheVariants.{NotWaiting}
use Rattle.queue.specs.Arrivals.{Arrival, after, arrived}
use Rattle.queue.proofs.Scripts.{script_runs}
use Rattle.queue.proofs.RefusalCodes.{put_accepted, put_refusal_is}
use Rattle.queue.proofs.Changed.{KeepsNumber, none_keeps, joined_once, less_keeps, look_before, look_joined, look_others, look_changed, no_more, errand_at, changed_once}
use Rattle.queue.proofs.NextSteps.{AnswersCalls}
use Rattle.queue.proofs.Waiting.{after_more, taken_waits, waiting_of, spent_waits}
use Rattle.queue.specs.Scripts.{RunOf}

-- What a queue of so many places means after a history, if it names the errand of a choice.
abbrev pub queue_after : Choice → ℕ → History → Meaning
queue_after choice places past = record { waiting = waiting_of (arrived past); named = choice past; places = places }

-- A choice that names some errand exactly when one waits, and then one that waits.
abbrev pub NamesRight : Choice → Type 0
NamesRight choice = (past : History) → names_right (waiting_of (arrived past)) (choice past) ≡ true

-- The errand that a queue names waits.
named_waits : (es : List Errand) (n : ℕ) → names_right es (Some n) ≡ true → (e : Errand) × (look es n ≡ Some e)
named_waits [] n right = cc
named_waits (e ∷ es) n right = some_is (look (e ∷ es) n) right

module _ (choice : Choice) (right : NamesRight choice) (places : ℕ) where
  -- What the queue means after a past, and that a meaning is this one.
  abbrev means : History → Meaning
  means past = queue_after choice places past

  record IsAfter (past : History) (m : Meaning) : Type 0 where
    is : m ≡ means past
    sound : Sound m

  sound_after : (past : History) → distinct (means past).waiting ≡ true → length (means past).waiting ≤ places → Sound (means past)
  sound_after past once few = record { each_once = once; few = few; names = right past }

  is_after : (past : History) → Sound (means past) → IsAfter past (means past)
  is_after past sound = record { is = refl; sound = sound }

  stays_after : (past : History) → Sound (means past) → IsAfter (past ++ []) (means past)
  stays_after past sound = stays_on IsAfter (means past) (means past) refl past (is_after past sound)

  empty_is_after : IsAfter [] (means [])
  empty_is_after = is_after [] (sound_after [] refl (omega arith))

  -- An event after which these errands wait, among which one number alone looks up otherwise than before, changes that number.
  changed : (past : History) (x : Event) (es : List Errand) (n : ℕ) (found : Option Errand)
      → waiting_of (after (arrived past) x) ≡ es
      → look es n ≡ found
      → ((k : ℕ) → (k ≡ n → ⊥) → look es k ≡ look (means past).waiting k)
      → distinct es ≡ true
      → length es ≤ places
      → Changes (means past) n found (means (past ++ x ∷ []))
  changed past x es n found leaves here others once few =
      let now : (means (past ++ x ∷ [])).waiting ≡ es = ap waiting_of (after_more [] past x) ∙ leaves in
      record {
        here = ap (λ (ys : List Errand). look ys n) now ∙ here;
        others = λ k apart. ap (λ (ys : List Errand). look ys k) now ∙ others k apart;
        places_stay = refl;
        sound = sound_after (past ++ x ∷ []) (ap distinct now ∙ once) (omega (arith, ap length now));
      }

  put_leaves : (past : History) (e : Errand) (r : Result (Unit {0}) Refusal) → Sound (means past)
      → put_refusal (means past) e ≡ refusal r → (m' : Meaning) × Put (means past) e r m' × IsAfter (past ++ by_put e r) m'
  put_leaves past e (Ok x) sound told =
      let (within, new, room) = put_accepted (means past) e told in
      let es = (means past).waiting in
      let change =
      changed past (was_put e) (es ++ e ∷ []) e.number (Some e)
      (map_push (λ (a : Arrival). a.waits) (arrived past) (record { put = e; waits = e }))
      (look_joined es e new) (look_before es e) (joined_once es e within new sound.each_once)
      (omega (arith, length-append es (e ∷ []))) in
      (means (past ++ was_put e ∷ []), (told, change), is_after (past ++ was_put e ∷ []) change.sound)
  put_leaves past e (Err why) sound told = (means past, (told, refl), stays_after past sound)

  -- So does one that changes the errand of a number, or takes it out.
  change_leaves : (past : History) (x : Event) (f : Errand → Option Errand) (n : ℕ) (e : Errand) → KeepsNumber f → Sound (means past)
      → waiting_of (after (arrived past) x) ≡ filter_map (errand_at f n) (means past).waiting
      → look (means past).waiting n ≡ Some e
      → Changes (means past) n (f e) (means (past ++ x ∷ []))
  change_leaves past x f n e keeps sound leaves found =
      let es = (means past).waiting in
      changed past x (filter_map (errand_at f n) es) n (f e) leaves
      (look_changed f n keeps es e sound.each_once found)
      (λ k apart. look_others f n keeps es k sound.each_once apart)
      (changed_once f n keeps es sound.each_once)
      (omega (arith, no_more (errand_at f n) es, sound.few))

  spend_leaves : (past : History) → Sound (means past) → (o : Option ℕ) → choice past ≡ o
      → (r : Option ℕ) × (m' : Meaning) × Spend (means past) r m' × IsAfter (past ++ by_spend r) m'
  spend_leaves past sound None named = (None, means past, (named, refl), stays_after past sound)
  spend_leaves past sound (Some n) named =
      let (e, found) = named_waits (means past).waiting n (ap (names_right (means past).waiting) (sym named) ∙ right past) in
      let change =
      change_leaves past (was_spent n) one_less n e less_keeps sound
      (spent_waits n (arrived past)) found in
      (Some n, means (past ++ was_spent n ∷ []), (named, (e, found, change)), is_after (past ++ was_spent n ∷ []) change.sound)

  take_leaves : (past : History) (n : ℕ) → Sound (means past) → (o : Option Errand) → look (means past).waiting n ≡ o
      → (r : Result ℕ Refusal) × (m' : Meaning) × Take (means past) n r m' × IsAfter (past ++ by_take n r) m'
  take_leaves past n sound None none = (Err NotWaiting, means past, (none, refl, refl), stays_after past sound)
  take_leaves past n sound (Some e) found =
      let change =
      change_leaves past (was_taken n) (λ _. None) n e none_keeps sound
      (taken_waits n (arrived past)) found in
      (Ok e.units, means (past ++ was_taken n ∷ []), (e, found, refl, change), is_after (past ++ was_taken n ∷ []) change.sound)

  answers : AnswersCalls IsAfter choice
  answers =
      record {
        sound = λ past m arose. arose.sound;
        chooses = λ past m arose. ap (λ (k : Meaning). k.named) arose.is;
        puts = λ past m e arose.
            let (r, told) = put_refusal_is (means past) e in
            let (m', put, arose') = put_leaves past e r (subst Sound arose.is arose.sound) told in
            (r, m', subst (λ (k : Meaning). Put k e r m') (sym arose.is) put, arose');
        spends = λ past m arose.
            let (r, m', spend, arose') = spend_leaves past (subst Sound arose.is arose.sound) (choice past) refl in
            (r, m', subst (λ (k : Meaning). Spend k r m') (sym arose.is) spend, arose');
        takes = λ past m n arose.
            let (r, m', take, arose') = take_leaves past n (subst Sound arose.is arose.sound) (look (means past).waiting n) refl in
            (r, m', subst (λ (k : Meaning). Take k n r m') (sym arose.is) take, arose');
      }

-- So every script has a run from the fresh state over an empty queue.
pub script_runs_from_empty : (table : List Duty) (choice : Choice) (places : ℕ) (script : List Call) → NamesRight choice
    → RunOf choice [] (fresh table (queue_after choice places [])) script
script_runs_from_empty table choice places script right =
    script_runs (IsAfter choice right places) choice (answers choice right places) []
    (fresh table (queue_after choice places [])) (empty_is_after choice right places) script
