-- What each number looks up among the errands of a list after a slot was put at its place or removed, and that no number then waits
-- twice.
use Rattle.std.proofs.Common.{◌≡◌, ℕ, zero, suc, Bool, true, cond, eqb, List, [], ◌∷◌, Some, None, sym, refl, ap, ◌∙◌}
use Rattle.std.specs.List.{slice_get, remove}
use Rattle.std.proofs.lemmas.Bool.{cond_both, cond-false, cond-true, eq-eqb, ne_eqb}
use Rattle.model.specs.Queues.{look, distinct, errand_within}
use Rattle.model.specs.declared.errands.Errand.{Errand}
use Rattle.list.specs.Order.{placed}
use Rattle.queue.specs.Lists.{errands}
use Rattle.queue.specs.declared.slots.Slot.{Slot}
use Rattle.queue.proofs.Lookups.{first_once, once_more}

-- A number that does not wait is not that of the first errand, and does not wait behind it.
pub none_apart : (e : Errand) (es : List Errand) (n : ℕ) → look (e ∷ es) n ≡ None → e.number ≡ n → ⊥
none_apart e es n h same =
    let found : Some e ≡ None = sym (cond-true _ (Some e) (look es n) (eq-eqb _ _ same)) ∙ h in cc

pub none_behind : (e : Errand) (es : List Errand) (n : ℕ) → look (e ∷ es) n ≡ None → look es n ≡ None
none_behind e es n h =
    sym (cond-false _ (Some e) (look es n) (ne_eqb _ _ (none_apart e es n h))) ∙ h

pub none_past : (e : Errand) (es : List Errand) (n : ℕ) → (e.number ≡ n → ⊥) → look (e ∷ es) n ≡ look es n
none_past e es n apart = cond-false _ (Some e) (look es n) (ne_eqb _ _ apart)

pub look_first : (e : Errand) (es : List Errand) → look (e ∷ es) e.number ≡ Some e
look_first e es = cond-true _ (Some e) (look es e.number) (eq-eqb _ _ refl)

-- A slot that is put at its place is found by its number, and every other number finds what it found before.
pub look_placed_other : (before : Slot → Slot → Bool) (s : Slot) (xs : List Slot) (k : ℕ) → (k ≡ s.errand.number → ⊥) →
    look (errands (placed before s xs)) k ≡ look (errands xs) k
look_placed_other before s [] k apart = none_past s.errand [] k (λ same. apart (sym same))
look_placed_other before s (x ∷ xs) k apart =
    cond_both (before s x) (s ∷ x ∷ xs) (x ∷ placed before s xs) (λ ys. look (errands ys) k ≡ look (errands (x ∷ xs)) k)
    (λ _. none_past s.errand (errands (x ∷ xs)) k (λ same. apart (sym same)))
    (λ _. ap (cond (eqb x.errand.number k) (Some x.errand)) (look_placed_other before s xs k apart))

pub look_placed_same : (before : Slot → Slot → Bool) (s : Slot) (xs : List Slot) →
    look (errands xs) s.errand.number ≡ None → look (errands (placed before s xs)) s.errand.number ≡ Some s.errand
look_placed_same before s [] none = look_first s.errand []
look_placed_same before s (x ∷ xs) none =
    cond_both (before s x) (s ∷ x ∷ xs) (x ∷ placed before s xs)
    (λ ys. look (errands ys) s.errand.number ≡ Some s.errand)
    (λ _. look_first s.errand (errands (x ∷ xs)))
    (λ _. none_past x.errand (errands (placed before s xs)) _ (none_apart x.errand (errands xs) _ none)
    ∙ look_placed_same before s xs (none_behind x.errand (errands xs) _ none))

pub placed_once : (before : Slot → Slot → Bool) (s : Slot) (xs : List Slot) → errand_within s.errand ≡ true →
    look (errands xs) s.errand.number ≡ None → distinct (errands xs) ≡ true →
    distinct (errands (placed before s xs)) ≡ true
placed_once before s [] within none once = once_more s.errand [] (record { within = within; alone = refl; rest = refl })
placed_once before s (x ∷ xs) within none once =
    let f = first_once x.errand (errands xs) once in
    let apart : x.errand.number ≡ s.errand.number → ⊥ = none_apart x.errand (errands xs) _ none in
    cond_both (before s x) (s ∷ x ∷ xs) (x ∷ placed before s xs) (λ ys. distinct (errands ys) ≡ true)
    (λ _. once_more s.errand (errands (x ∷ xs)) (record { within = within; alone = none; rest = once }))
    (λ _.
    once_more x.errand (errands (placed before s xs))
    (record {
      within = f.within;
      alone = look_placed_other before s xs x.errand.number apart ∙ f.alone;
      rest = placed_once before s xs within (none_behind x.errand (errands xs) _ none) f.rest;
    }))

-- Where an errand is removed, its number finds none, and every other number finds what it found before.
removed_none : (es : List Errand) (i k : ℕ) → look es k ≡ None → look (remove es i) k ≡ None
removed_none [] zero k h = refl
removed_none [] (suc i) k h = refl
removed_none (x ∷ es) zero k h = none_behind x es k h
removed_none (x ∷ es) (suc i) k h =
    none_past x (remove es i) k (none_apart x es k h) ∙ removed_none es i k (none_behind x es k h)

pub removed_once : (es : List Errand) (i : ℕ) → distinct es ≡ true → distinct (remove es i) ≡ true
removed_once [] zero h = refl
removed_once [] (suc i) h = refl
removed_once (x ∷ es) zero h = (first_once x es h).rest
removed_once (x ∷ es) (suc i) h =
    let f = first_once x es h in
    once_more x (remove es i)
    (record { within = f.within; alone = removed_none es i _ f.alone; rest = removed_once es i f.rest })

pub look_removed_other : (es : List Errand) (i : ℕ) (e : Errand) (k : ℕ) → slice_get es i ≡ Some e → (k ≡ e.number → ⊥) →
    look (remove es i) k ≡ look es k
look_removed_other [] i e k at apart = cc
look_removed_other (x ∷ es) zero e k at apart =
    let same : x ≡ e = cc in
    sym (none_past x es k (λ q. apart (sym q ∙ ap (λ y. y.number) same)))
look_removed_other (x ∷ es) (suc i) e k at apart =
    ap (cond (eqb x.number k) (Some x)) (look_removed_other es i e k at apart)

-- No number waits twice, so none is left of it.
nth_waits : (es : List Errand) (i : ℕ) (e : Errand) → slice_get es i ≡ Some e → look es e.number ≡ None → ⊥
nth_waits [] i e at none = cc
nth_waits (x ∷ es) zero e at none =
    let same : x ≡ e = cc in none_apart x es _ none (ap (λ y. y.number) same)
nth_waits (x ∷ es) (suc i) e at none = nth_waits es i e at (none_behind x es _ none)

pub look_removed_same : (es : List Errand) (i : ℕ) (e : Errand) → slice_get es i ≡ Some e → distinct es ≡ true →
    look (remove es i) e.number ≡ None
look_removed_same [] i e at once = cc
look_removed_same (x ∷ es) zero e at once =
    let same : x.number ≡ e.number = (let q : x ≡ e = cc in ap (λ y. y.number) q) in
    ap (look es) (sym same) ∙ (first_once x es once).alone
look_removed_same (x ∷ es) (suc i) e at once =
    let f = first_once x es once in
    none_past x (remove es i) _ (λ same. nth_waits es i e at (ap (look es) (sym same) ∙ f.alone))
    ∙ look_removed_same es i e at f.rest
