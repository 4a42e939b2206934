-- What becomes of the meaning of a list as its slots change.
use Rattle.std.proofs.Common.{◌≡◌, ℕ, zero, suc, ◌<◌, ◌≤◌, true, List, [], ◌∷◌, length, is_some, Some, None, sym, refl, ap, ◌∙◌}
use Rattle.std.specs.List.{slice_get, remove}
use Rattle.std.proofs.lemmas.Bool.{cond-true, cond-false, lt-leb, le-leb, not_from_true}
use Rattle.model.specs.Queues.{Meaning, Changes, look, distinct, errand_within, put_refusal}
use Rattle.model.specs.declared.errands.Errand.{Errand}
use Rattle.list.specs.Held.{held, Becomes}
use Rattle.list.specs.Order.{placed}
use Rattle.list.specs.declared.ordered.OrderedList.{OrderedList}
use Rattle.queue.specs.Lists.{errands, list_meaning, list_sound}
use Rattle.queue.specs.Ranks.{ranks}
use Rattle.queue.specs.Slots.{with_units}
use Rattle.queue.specs.declared.slots.Slot.{Slot}
use Rattle.queue.proofs.Lookups.{first_once, once_more}
use Rattle.queue.proofs.LookupsAfter.{placed_once, look_placed_same, look_placed_other, removed_once, look_removed_same, look_removed_other, look_first, none_past}

-- Which number refuses a put.
pub refused_waits : (m : Meaning) (e : Errand) → errand_within e ≡ true → is_some (look m.waiting e.number) ≡ true →
    put_refusal m e ≡ 9 ∷ []
refused_waits m e h k = cond-false _ _ _ (not_from_true _ h) ∙ cond-true _ _ _ k

pub refused_full : (m : Meaning) (e : Errand) → errand_within e ≡ true → look m.waiting e.number ≡ None →
    m.places ≤ length m.waiting → put_refusal m e ≡ 10 ∷ []
refused_full m e h k full =
    cond-false _ _ _ (not_from_true _ h) ∙ cond-false _ _ _ (ap is_some k) ∙ cond-true _ _ _ (le-leb _ _ full)

pub refused_not : (m : Meaning) (e : Errand) → errand_within e ≡ true → look m.waiting e.number ≡ None →
    length m.waiting < m.places → put_refusal m e ≡ []
refused_not m e h k room =
    cond-false _ _ _ (not_from_true _ h) ∙ cond-false _ _ _ (ap is_some k) ∙ cond-false _ _ _ (lt-leb _ _ room)

-- A slot was put at its place.
pub placed_changes : {R : _} (l m : OrderedList Slot R) (s : Slot) (rest : List Slot) → errand_within s.errand ≡ true →
    look (errands (held l)) s.errand.number ≡ None → distinct (errands (held l)) ≡ true →
    Becomes l (placed ranks s (held l)) rest m → Changes (list_meaning l) s.errand.number (Some s.errand) (list_meaning m)
placed_changes l m s rest within none once done =
    let after = ap errands done.holds in
    record {
      here = ap (λ es. look es s.errand.number) after ∙ look_placed_same ranks s (held l) none;
      others = λ k apart. ap (λ es. look es k) after ∙ look_placed_other ranks s (held l) k apart;
      places_stay = done.capacity_stays;
      sound = list_sound m (ap distinct after ∙ placed_once ranks s (held l) within none once);
    }

errands_removed : (xs : List Slot) (i : ℕ) → errands (remove xs i) ≡ remove (errands xs) i
errands_removed [] zero = refl
errands_removed [] (suc i) = refl
errands_removed (x ∷ xs) zero = refl
errands_removed (x ∷ xs) (suc i) = ap (λ es. x.errand ∷ es) (errands_removed xs i)

-- A slot was removed.
pub removed_changes : {R : _} (l m : OrderedList Slot R) (i : ℕ) (e : Errand) (rest : List Slot) → slice_get (errands (held l)) i ≡ Some e →
    distinct (errands (held l)) ≡ true → Becomes l (remove (held l) i) rest m →
    Changes (list_meaning l) e.number None (list_meaning m)
removed_changes l m i e rest at once done =
    let after : errands (held m) ≡ remove (errands (held l)) i = ap errands done.holds ∙ errands_removed (held l) i in
    record {
      here = ap (λ es. look es e.number) after ∙ look_removed_same (errands (held l)) i e at once;
      others = λ k apart. ap (λ es. look es k) after ∙ look_removed_other (errands (held l)) i e k at apart;
      places_stay = done.capacity_stays;
      sound = list_sound m (ap distinct after ∙ removed_once (errands (held l)) i once);
    }

-- The units of the first slot changed.
pub first_changes : {R : _} (l m : OrderedList Slot R) (s : Slot) (ss rest : List Slot) (units : ℕ) → held l ≡ s ∷ ss →
    distinct (errands (held l)) ≡ true → errand_within (with_units s units).errand ≡ true →
    Becomes l (with_units s units ∷ ss) rest m →
    Changes (list_meaning l) s.errand.number (Some (with_units s units).errand) (list_meaning m)
first_changes l m s ss rest units was once within done =
    let after = ap errands done.holds in
    let before = ap errands was in
    let e = (with_units s units).errand in
    let f = first_once s.errand (errands ss) (sym (ap distinct before) ∙ once) in
    record {
      here = ap (λ es. look es s.errand.number) after ∙ look_first e (errands ss);
      others = λ k apart.
          ap (λ es. look es k) after
          ∙ (none_past e (errands ss) k (λ q. apart (sym q))
          ∙ sym (ap (λ es. look es k) before ∙ none_past s.errand (errands ss) k (λ q. apart (sym q))));
      places_stay = done.capacity_stays;
      sound =
          list_sound m
          (ap distinct after ∙ once_more e (errands ss) (record { within = within; alone = f.alone; rest = f.rest }));
    }
