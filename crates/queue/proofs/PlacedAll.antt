-- A list to which slots were added one by one, each at its place, and then changed or taken out: it is the list to which the changed
-- slots were added in the same order. For a slot keeps its rating whatever becomes of it, and so keeps its place among the others.
use Rattle.std.proofs.Common.{◌≡◌, ℕ, ◌-◌, Bool, true, false, cond, ◌&&◌, eqb, leb, List, [], ◌∷◌, ◌++◌, Some, None, Option, sym, refl, ap, ◌∙◌, ⊎_elim}
use Rattle.std.specs.List.{cons_option, filter_map}
use Rattle.std.proofs.lemmas.Bool.{cond-true, cond-false, cond_both, and_from, and_parts, not-true, cases_Bool, eq-eqb, eqb-true}
use Rattle.model.specs.Queues.{look, distinct}
use Rattle.list.specs.Order.{none_before, sorted, placed}
use Rattle.list.proofs.Order.{placed_keeps_sorted}
use Rattle.queue.specs.Lists.{errands, first_number}
use Rattle.queue.specs.Ranks.{ranks, ranks_asymmetric, ranks_negatively_transitive}
use Rattle.queue.specs.Ratings.{outrates}
use Rattle.queue.specs.Slots.{with_units}
use Rattle.queue.specs.Orders.{placed_all}
use Rattle.queue.specs.declared.slots.Slot.{Slot}
use Rattle.queue.proofs.After.{taken_slot, first_spent, less_slot, without, spent_slot}
use Rattle.queue.proofs.AtNumber.{Keeps, all_stay, keeps_at_number}
use Rattle.queue.proofs.Lookups.{first_once}

pub placed_all_more : (list came : List Slot) (s : Slot) → placed_all list (came ++ s ∷ []) ≡ placed ranks s (placed_all list came)
placed_all_more list [] s = refl
placed_all_more list (x ∷ came) s = placed_all_more (placed ranks x list) came s

-- What changes slots but not their ratings.
abbrev pub KeepsRating : (Slot → Option Slot) → Type 0
KeepsRating = Keeps (λ (s : Slot). s.rating)

abbrev placed_if : Option Slot → List Slot → List Slot
placed_if None list = list
placed_if (Some s) list = placed ranks s list

-- A slot outrates each of the others.
abbrev outrates_all : Slot → List Slot → Bool
outrates_all s [] = true
outrates_all s (y ∷ ys) = ranks s y && outrates_all s ys

outrates_behind : (s x y : Slot) → ranks s x ≡ true → ranks y x ≡ false → ranks s y ≡ true
outrates_behind s x y t f =
    ⊎_elim (λ h. h) (λ h. cc (ranks_negatively_transitive s y x h f)) (cases_Bool (ranks s y))

-- What outrates a slot of a list in order outrates all behind it.
outrates_rest : (s x : Slot) → ranks s x ≡ true → (xs : List Slot) → none_before ranks x xs ≡ true → outrates_all s xs ≡ true
outrates_rest s x t [] h = refl
outrates_rest s x t (y ∷ ys) h =
    let p = and_parts _ _ h in
    and_from _ _ (outrates_behind s x y t (not-true _ p.0)) (outrates_rest s x t ys p.1)

same_ranks : (s t x y : Slot) → t.rating ≡ s.rating → y.rating ≡ x.rating → ranks t y ≡ ranks s x
same_ranks s t x y p q = ap (λ r. outrates r y.rating) p ∙ ap (outrates s.rating) q

placed_first : (change : Slot → Option Slot) → KeepsRating change → (s t : Slot) → t.rating ≡ s.rating → (ys : List Slot) →
    outrates_all s ys ≡ true → placed ranks t (filter_map change ys) ≡ t ∷ filter_map change ys
placed_first change keeps s t same [] h = refl
placed_first change keeps s t same (y ∷ ys) h =
    let p = and_parts _ _ h in
    (elim (change y)
    as (λ o. change y ≡ o → placed ranks t (cons_option o (filter_map change ys)) ≡ t ∷ cons_option o (filter_map change ys)) [
      | None ↦ λ _. placed_first change keeps s t same ys p.1
      | Some z ↦ λ e. cond-true _ _ _ (same_ranks s t y z same (keeps y z e) ∙ p.0)
    ])
    refl

-- To put a slot at its place and then to change slots is to change them first, and then to put what became of that slot at its place.
each_placed : (change : Slot → Option Slot) → KeepsRating change → (s : Slot) (list : List Slot) → sorted ranks list ≡ true →
    (o : Option Slot) → change s ≡ o → filter_map change (placed ranks s list) ≡ placed_if o (filter_map change list)
each_placed change keeps s [] h None e = ap (λ o. cons_option o []) e
each_placed change keeps s [] h (Some t) e = ap (λ o. cons_option o []) e
each_placed change keeps s (x ∷ xs) h None e =
    let p = and_parts _ _ h in
    cond_both (ranks s x) (s ∷ x ∷ xs) (x ∷ placed ranks s xs) (λ ys. filter_map change ys ≡ filter_map change (x ∷ xs))
    (λ _. ap (λ o. cons_option o (filter_map change (x ∷ xs))) e)
    (λ _. ap (cons_option (change x)) (each_placed change keeps s xs p.1 None e))
each_placed change keeps s (x ∷ xs) h (Some t) e =
    let p = and_parts _ _ h in
    let same = keeps s t e in
    cond_both (ranks s x) (s ∷ x ∷ xs) (x ∷ placed ranks s xs)
    (λ ys. filter_map change ys ≡ placed ranks t (filter_map change (x ∷ xs)))
    (λ b.
    ap (λ o. cons_option o (filter_map change (x ∷ xs))) e
    ∙ sym (placed_first change keeps s t same (x ∷ xs) (and_from _ _ b (outrates_rest s x b xs p.0))))
    (λ f.
    ap (cons_option (change x)) (each_placed change keeps s xs p.1 (Some t) e)
    ∙ (elim (change x)
    as (λ o. change x ≡ o →
    cons_option o (placed ranks t (filter_map change xs)) ≡ placed ranks t (cons_option o (filter_map change xs))) [
      | None ↦ λ _. refl
      | Some y ↦ λ q. sym (cond-false _ _ _ (same_ranks s t x y same (keeps x y q) ∙ f))
    ])
    refl)

pub each_placed_all : (change : Slot → Option Slot) → KeepsRating change → (list came : List Slot) → sorted ranks list ≡ true →
    filter_map change (placed_all list came) ≡ placed_all (filter_map change list) (filter_map change came)
each_placed_all change keeps list [] h = refl
each_placed_all change keeps list (s ∷ came) h =
    each_placed_all change keeps (placed ranks s list) came (placed_keeps_sorted ranks ranks_asymmetric ranks_negatively_transitive s list h)
    ∙ (elim (change s)
    as (λ o. change s ≡ o →
    placed_all (filter_map change (placed ranks s list)) (filter_map change came)
    ≡ placed_all (filter_map change list) (cons_option o (filter_map change came))) [
      | None ↦ λ e. ap (λ ys. placed_all ys (filter_map change came)) (each_placed change keeps s list h None e)
      | Some t ↦ λ e. ap (λ ys. placed_all ys (filter_map change came)) (each_placed change keeps s list h (Some t) e)
    ])
    refl

-- A slot that is taken or spent on keeps its rating.
pub taken_keeps_rating : (n : ℕ) → KeepsRating (taken_slot n)
taken_keeps_rating = keeps_at_number (λ (s : Slot). s.rating) (λ (s : Slot). s.errand.number) (λ _. None) (λ s t is. cc)

pub spent_keeps_rating : (n : ℕ) → KeepsRating (spent_slot n)
spent_keeps_rating =
    keeps_at_number (λ (s : Slot). s.rating) (λ (s : Slot). s.errand.number) less_slot
    (λ s t.
    let less = with_units s (s.errand.units - 1) in
    cond_both (leb s.errand.units 1) None (Some less) (λ o. o ≡ Some t → t.rating ≡ s.rating)
    (λ _ is. cc)
    (λ _ is. let same : less ≡ t = cc in ap (λ x. x.rating) (sym same)))

pub without_is_taken : (n : ℕ) (ss : List Slot) → distinct (errands ss) ≡ true → without n ss ≡ filter_map (taken_slot n) ss
without_is_taken n [] once = refl
without_is_taken n (s ∷ ss) once =
    let f = first_once s.errand (errands ss) once in
    (elim (eqb s.errand.number n)
    as (λ b. eqb s.errand.number n ≡ b →
    cond b ss (s ∷ without n ss) ≡ cons_option (cond b None (Some s)) (filter_map (taken_slot n) ss)) [
      | true ↦ λ e.
          sym (all_stay (λ (x : Slot). x.errand) (λ _. None) n ss (ap (look (errands ss)) (sym (eqb-true _ _ e)) ∙ f.alone))
      | false ↦ λ _. ap (λ ys. s ∷ ys) (without_is_taken n ss f.rest)
    ])
    refl

pub first_spent_is_spent : (n : ℕ) (ss : List Slot) → first_number (errands ss) ≡ Some n → distinct (errands ss) ≡ true →
    first_spent ss ≡ filter_map (spent_slot n) ss
first_spent_is_spent n [] named once = cc
first_spent_is_spent n (s ∷ ss) named once =
    let f = first_once s.errand (errands ss) once in
    let same : s.errand.number ≡ n = cc in
    let rest = all_stay (λ (x : Slot). x.errand) less_slot n ss (ap (look (errands ss)) (sym same) ∙ f.alone) in
    let less = with_units s (s.errand.units - 1) in
    (elim (leb s.errand.units 1)
    as (λ b. cond b ss (less ∷ ss) ≡ cons_option (cond b None (Some less)) ss) [ true ↦ refl | false ↦ refl ])
    ∙ sym
    (ap (λ o. cons_option o (filter_map (spent_slot n) ss)) (cond-true _ _ _ (eq-eqb _ _ same))
    ∙ ap (cons_option (cond (leb s.errand.units 1) None (Some less))) rest)
