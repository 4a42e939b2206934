-- What the calls of a queue make of its list. A put inserts a slot, a spend writes over the first or removes it, and a take removes the
-- one at the place of its number. From what the ordered list promises of these (`Inserts`, `Replaces`, `Removes`) each lemma concludes
-- what the queue promises of the meaning (`Put`, `Spend`, `Take`), which slots the list then holds, and which are free.
use Rattle.std.proofs.Common.{◌≡◌, ℕ, suc, ◌+◌, ◌-◌, ◌<◌, ◌≤◌, Bool, true, false, cond, not, ◌&&◌, eqb, leb, List, [], ◌∷◌, drop, get_or, length, set, is_some, Some, None, Ok, Err, Result, sym, refl, ap, ◌∙◌, subst, sub-one, arith, eq-eqb}
use lib.ListN.{length-map}
use Rattle.std.specs.List.{cons_option, find, slice_get, remove, position_or_len}
use Rattle.std.specs.Option.{option_map}
use Rattle.std.proofs.lemmas.List.Quantifiers.{position-Some}
use Rattle.std.proofs.lemmas.Option.{slice_get-map, slice_get_read}
use Rattle.std.proofs.lemmas.Bool.{cond-true, cond-false, le-leb, lt-leb, le-ltb, leb-true, not_from_false, and_from, and_parts}
use Rattle.model.specs.Histories.{by_put, was_spent, was_taken}
use Rattle.model.specs.Queues.{Put, Spend, Take, Changes, look, distinct, errand_within, one_less}
use Rattle.model.specs.Refusals.{refusal_code}
use Rattle.model.specs.declared.errands.Errand.{Errand}
use Rattle.model.specs.declared.refusals.Refusal.{Refusal}
use Rattle.model.specs.declared.refusals.Refusal.TheVariants.{NotWaiting}
use Rattle.list.specs.Held.{held, free_slots, some_same_rank, Becomes, Inserts, Removes, Replaces}
use Rattle.list.specs.Order.{same_rank}
use Rattle.list.specs.declared.ordered.OrderedList.{OrderedList}
use Rattle.queue.specs.Lists.{errands, first_number, free_after, list_meaning, has_number, place_of, with_last_unit}
use Rattle.queue.specs.Ranks.{ranks}
use Rattle.queue.specs.Slots.{with_units}
use Rattle.queue.specs.declared.slots.Slot.{Slot}
use Rattle.queue.proofs.After.{first_spent, without}
use Rattle.queue.proofs.Lookups.{found_at, look_is_found, place_is, waits_somewhere, waits_nowhere, look_number, first_once}
use Rattle.queue.proofs.LookupsAfter.{look_first}
use Rattle.queue.proofs.Meanings.{refused_waits, refused_full, refused_not, placed_changes, removed_changes, first_changes}

-- The first slot, if there is one.
first_some : (ss : List Slot) (s : Slot) → slice_get ss 0 ≡ Some s → ss ≡ s ∷ drop 1 ss
first_some [] s h = cc
first_some (x ∷ ss) s h = let same : x ≡ s = cc in ap (λ y. y ∷ ss) same

-- It is the one found by its number.
first_found : (ss : List Slot) (s : Slot) → ss ≡ s ∷ drop 1 ss → find (has_number s.errand.number) ss ≡ Some s
first_found ss s was = ap (find (has_number s.errand.number)) was ∙ cond-true _ _ _ (eq-eqb s.errand.number _ refl)

-- A put of an errand whose number waits is refused 9.
pub put_waits : {R : _} (X : Type 0) (l : OrderedList Slot R) (e : Errand) (why : Refusal) → errand_within e ≡ true →
    is_some (place_of e.number (held l)) ≡ true → refusal_code why ≡ 9 ∷ [] → Put {X = X} (list_meaning l) e (Err why) (list_meaning l)
put_waits X l e why within some number =
    let waits = sym (waits_somewhere e.number (held l)) ∙ some in
    (refused_waits (list_meaning l) e within waits ∙ sym number, refl)

-- A list in which no number waits twice, and a slot for an errand within its limits whose number does not wait there.
pub record NewErrand {R : _} (l : OrderedList Slot R) (s : Slot) (e : Errand) : Type 0 where
  pub absent : is_some (place_of e.number (held l)) ≡ false
  pub errand : s.errand ≡ e
  pub within : errand_within e ≡ true
  pub once : distinct (errands (held l)) ≡ true

-- A put of such an errand inserts the slot, or is refused 10.
pub put_inserted : {X : Type 0} {R : _} (l m : OrderedList Slot R) (s : Slot) (e : Errand) (r : Result X Refusal) →
    NewErrand l s e → Inserts ranks l s r m → Put (list_meaning l) e r (list_meaning m)
put_inserted l m s e (Ok x) new done =
    let is = new.errand in
    let absent : look (errands (held l)) s.errand.number ≡ None =
    ap (λ k. look (errands (held l)) k.number) is ∙ waits_nowhere e.number (held l) new.absent in
    let inside : errand_within s.errand ≡ true = ap errand_within is ∙ new.within in
    subst (λ k. Put (list_meaning l) k (Ok x) (list_meaning m)) is (
      refused_not (list_meaning l) s.errand inside absent (omega (arith, done.0, length-map (held l) (λ s. s.errand))),
      placed_changes l m s _ inside absent new.once done.1,
    )
put_inserted l m s e (Err why) new done = (
  refused_full (list_meaning l) e new.within (waits_nowhere e.number (held l) new.absent)
      (omega (arith, done.0, length-map (held l) (λ s. s.errand)))
      ∙ sym done.1,
  ap list_meaning done.2,
)

pub free_put : {X : Type 0} {R : _} (l m : OrderedList Slot R) (s : Slot) (e : Errand) (r : Result X Refusal) →
    Inserts ranks l s r m → free_slots m ≡ free_after (held l) (free_slots l) (by_put e r)
free_put l m s e (Ok x) done = done.1.free
free_put l m s e (Err why) done = ap free_slots done.2

-- Each errand still waits once after a put.
pub once_put : {X : Type 0} {R : _} (l m : OrderedList Slot R) (e : Errand) (r : Result X Refusal) →
    Put (list_meaning l) e r (list_meaning m) → distinct (errands (held l)) ≡ true → distinct (errands (held m)) ≡ true
once_put l m e (Ok x) put once = put.1.sound.each_once
once_put l m e (Err why) put once = ap (λ k. distinct k.waiting) put.1 ∙ once

-- A unit was spent: what the list means now, which slots it holds, and which are free.
pub record UnitSpent {R : _} (l : OrderedList Slot R) (n : ℕ) (m : OrderedList Slot R) : Type 0 where
  pub spends : Spend (list_meaning l) (Some n) (list_meaning m)
  pub slots : held m ≡ first_spent (held l)
  pub free : free_slots m ≡ free_after (held l) (free_slots l) (was_spent n ∷ [])

-- A list in which no number waits twice, and whose first slot holds an errand.
pub record FirstErrand {R : _} (l : OrderedList Slot R) (s : Slot) (e : Errand) : Type 0 where
  pub at : slice_get (held l) 0 ≡ Some s
  pub errand : e ≡ s.errand
  pub once : distinct (errands (held l)) ≡ true

-- The last unit of this errand: its slot was removed.
pub last_spent : {R : _} (l m : OrderedList Slot R) (s : Slot) (e : Errand) → FirstErrand l s e → e.units ≤ 1 →
    Removes l 0 (slice_get (held l) 0) m → UnitSpent l e.number m
last_spent l m s e front last removed =
    let at = front.at in
    let is = front.errand in
    let once = front.once in
    let was = first_some (held l) s at in
    let first = ap errands was in
    let over : s.errand.units ≤ 1 = omega (arith, ap (λ k. k.units) is) in
    let done : Becomes l (remove (held l) 0) (s ∷ free_slots l) m = subst (λ o. Removes l 0 o m) at removed in
    subst (λ k. UnitSpent l k.number m) (sym is)
    (record {
      spends = (
        ap first_number first,
        (
          s.errand,
          ap (λ es. look es s.errand.number) first ∙ look_first s.errand _,
          subst (λ o. Changes (list_meaning l) s.errand.number o (list_meaning m))
              (sym (cond-true _ _ _ (le-leb _ _ over)))
              (removed_changes l m 0 s.errand _ (ap (λ es. slice_get es 0) first) once done),
        ),
      );
      slots = done.holds ∙ ap (λ ss. remove ss 0) was ∙ sym (ap first_spent was ∙ cond-true _ _ _ (le-leb _ _ over));
      free =
          done.free
          ∙ ap (λ o. cons_option o (free_slots l))
          (sym (ap with_last_unit (first_found (held l) s was) ∙ cond-true _ _ _ (le-leb _ _ over)));
    })

-- A slot keeps its rank as its units fall, so the list takes the new slot in place of the old.
keeps_rank : (s : Slot) (units : ℕ) → same_rank ranks s (with_units s units) ≡ true
keeps_rank s units =
    let same : ranks s s ≡ false = le-ltb _ _ (omega arith) in
    and_from _ _ (not_from_false _ same) (not_from_false _ same)

written : {R : _} (l m : OrderedList Slot R) (s t : Slot) (units : ℕ) (took : Bool) → slice_get (held l) 0 ≡ Some s →
    t ≡ with_units s units → took ≡ some_same_rank ranks (slice_get (held l) 0) t → Replaces l 0 t took m →
    Becomes l (set (held l) 0 (with_units s units)) (free_slots l) m
written l m s t units took at is fit replaced =
    let yes : took ≡ true = fit ∙ ap (λ o. some_same_rank ranks o t) at ∙ ap (some_same_rank ranks (Some s)) is ∙ keeps_rank s units in
    subst (λ k. Replaces l 0 k true m) is (subst (λ b. Replaces l 0 t b m) yes replaced)

one_less_is : (s : Slot) → 1 < s.errand.units → Some (with_units s (s.errand.units - 1)).errand ≡ one_less s.errand
one_less_is s more =
    ap (λ units. Some (with_units s units).errand) (sub-one s.errand.units) ∙ sym (cond-false _ _ _ (lt-leb _ _ more))

less_within : (s : Slot) → 1 < s.errand.units → errand_within s.errand ≡ true →
    errand_within (with_units s (s.errand.units - 1)).errand ≡ true
less_within s more within =
    let p = and_parts (leb 1 s.errand.units && leb s.errand.units 4096) (leb s.errand.worth 65535) within in
    let q = and_parts (leb 1 s.errand.units) (leb s.errand.units 4096) p.0 in
    let most : s.errand.units ≤ 4096 = leb-true _ _ q.1 in
    let less = s.errand.units - 1 in
    and_from _ _ (and_from _ _ (le-leb 1 less (omega arith)) (le-leb less 4096 (omega arith))) p.1

-- Any other unit: its slot was written over.
pub unit_spent : {R : _} (l m : OrderedList Slot R) (s : Slot) (e : Errand) {t : Slot} {took : Bool} → FirstErrand l s e →
    1 < e.units → t ≡ with_units s (e.units - 1) → took ≡ some_same_rank ranks (slice_get (held l) 0) t → Replaces l 0 t took m →
    UnitSpent l e.number m
unit_spent l m s e {t} {took} front units new fit replaced =
    let at = front.at in
    let is = front.errand in
    let once = front.once in
    let was = first_some (held l) s at in
    let first = ap errands was in
    let f = first_once s.errand _ (sym (ap distinct first) ∙ once) in
    let less = s.errand.units - 1 in
    let more : 1 < s.errand.units = omega (arith, ap (λ k. k.units) is) in
    let one = written l m s t less took at (new ∙ ap (λ k. with_units s (k.units - 1)) is) fit replaced in
    let done = subst (λ ss. Becomes l ss (free_slots l) m) (ap (λ ss. set ss 0 (with_units s less)) was) one in
    subst (λ k. UnitSpent l k.number m) (sym is)
    (record {
      spends = (
        ap first_number first,
        (
          s.errand,
          ap (λ es. look es s.errand.number) first ∙ look_first s.errand _,
          subst (λ o. Changes (list_meaning l) s.errand.number o (list_meaning m)) (one_less_is s more)
              (first_changes l m s (drop 1 (held l)) _ less was once (less_within s more f.within) done),
        ),
      );
      slots = done.holds ∙ sym (ap first_spent was ∙ cond-false _ _ _ (lt-leb _ _ more));
      free =
          done.free
          ∙ ap (λ o. cons_option o (free_slots l))
          (sym (ap with_last_unit (first_found (held l) s was) ∙ cond-false _ _ _ (lt-leb _ _ more)));
    })

-- Each errand still waits once after a spend.
pub once_spent : {R : _} (l m : OrderedList Slot R) (n : ℕ) → UnitSpent l n m → distinct (errands (held m)) ≡ true
once_spent l m n done = done.spends.1.2.sound.each_once

-- The slots without the one at the place of a number are those without the number.
without_place : (n : ℕ) (ss : List Slot) → remove ss (position_or_len (has_number n) ss) ≡ without n ss
without_place n [] = refl
without_place n (s ∷ ss) =
    let next : 1 + position_or_len (has_number n) ss ≡ suc (position_or_len (has_number n) ss) = omega arith in
    elim (eqb s.errand.number n)
    as (λ b. remove (s ∷ ss) (cond (not b) (1 + position_or_len (has_number n) ss) 0) ≡ cond b ss (s ∷ without n ss))
    [ true ↦ refl | false ↦ rw next (ap (λ xs. s ∷ xs) (without_place n ss)) ]

-- An errand was taken: what the list means now, which slots it holds, and which are free.
pub record ErrandTaken {R : _} (l : OrderedList Slot R) (n units : ℕ) (m : OrderedList Slot R) : Type 0 where
  pub takes : Take (list_meaning l) n (Ok units) (list_meaning m)
  pub slots : held m ≡ without n (held l)
  pub free : free_slots m ≡ free_after (held l) (free_slots l) (was_taken n ∷ [])

-- A list in which no number waits twice, and where the slot at the place of a number holds an errand.
pub record ErrandAt {R : _} (l : OrderedList Slot R) (n i : ℕ) (s : Slot) (e : Errand) : Type 0 where
  pub place : place_of n (held l) ≡ Some i
  pub read : s ≡ get_or (held l) i s
  pub errand : e ≡ s.errand
  pub once : distinct (errands (held l)) ≡ true

pub errand_taken : {R : _} (l m : OrderedList Slot R) {n i : ℕ} {s : Slot} {e : Errand} → ErrandAt l n i s e →
    Removes l i (slice_get (held l) i) m → ErrandTaken l n e.units m
errand_taken l m {n} {i} {s} {e} here removed =
    let place = here.place in
    let is = here.errand in
    let within = (position-Some (has_number n) (held l) i s place).0 in
    let at : slice_get (held l) i ≡ Some s = slice_get_read (held l) (length (held l)) i s refl within here.read in
    let done : Becomes l (remove (held l) i) (s ∷ free_slots l) m = subst (λ o. Removes l i o m) at removed in
    let found : find (has_number n) (held l) ≡ Some s = found_at n (held l) i place ∙ at in
    let waits : look (errands (held l)) n ≡ Some s.errand = look_is_found n (held l) ∙ ap (option_map (λ x. x.errand)) found in
    record {
      takes = subst (λ k. Take (list_meaning l) n (Ok k.units) (list_meaning m)) (sym is) (
        s.errand,
        waits,
        refl,
        subst (λ k. Changes (list_meaning l) k None (list_meaning m)) (look_number (errands (held l)) n s.errand waits)
            (removed_changes l m i s.errand _ (slice_get-map (λ x. x.errand) (held l) i ∙ ap (option_map (λ x. x.errand)) at)
            here.once done),
      );
      slots = done.holds ∙ ap (remove (held l)) (sym (place_is n (held l) i place)) ∙ without_place n (held l);
      free = done.free ∙ ap (λ o. cons_option o (free_slots l)) (sym found);
    }

-- A take of a number that waits nowhere changes nothing.
pub take_missing : {R : _} (l : OrderedList Slot R) (n : ℕ) (r : Result ℕ Refusal) → place_of n (held l) ≡ None →
    r ≡ Err NotWaiting → Take (list_meaning l) n r (list_meaning l)
take_missing l n r none is =
    subst (λ k. Take (list_meaning l) n k (list_meaning l)) (sym is) (waits_nowhere n (held l) (ap is_some none), refl, refl)

-- Each errand still waits once after one was taken.
pub once_taken : {R : _} (l m : OrderedList Slot R) (n units : ℕ) → ErrandTaken l n units m → distinct (errands (held m)) ≡ true
once_taken l m n units done = done.takes.3.sound.each_once
