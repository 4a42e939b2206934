-- Errands that wait, after the one of a number was changed or went, and after another was put behind them: what each number looks up
-- then, and that no number waits twice. Either nothing of a number changes, which is seen by a walk over the errands in front of the one
-- that is changed, or the number is that one's own, which no errand behind it has.
use Rattle.std.proofs.Common.{◌≡◌, ℕ, suc, pred, ◌≤◌, true, false, cond, eqb, leb, List, [], ◌∷◌, ◌++◌, length, Some, None, Option, sym, refl, ap, ◌∙◌, subst, ⊎_elim, arith}
use Rattle.std.specs.List.{cons_option, filter_map}
use Rattle.std.proofs.lemmas.Bool.{cases_Bool, cases_eq, cond-false, cond-true, eq-eqb}
use Rattle.std.proofs.lemmas.Bool.Decides.{nat_tests}
use Rattle.model.specs.Queues.{distinct, errand_within, look, one_less}
use Rattle.model.specs.declared.errands.Errand.{Errand}
use Rattle.std.proofs.lemmas.List.{map-id}
use Rattle.queue.proofs.AtNumber.{all_stay, at_number, other_stays}
use Rattle.queue.proofs.LookupsAfter.{look_first, none_apart, none_behind, none_past}
use Rattle.queue.proofs.Lookups.{FirstOnce, first_once, once_more}

-- The errand e' may wait in place of e: it has the same number, and is within its limits.
pub record Remains (e e' : Errand) : Type 0 where
  pub number : e'.number ≡ e.number
  pub within : errand_within e' ≡ true

-- What f makes of an errand within its limits, unless that goes, may wait in its place.
abbrev pub KeepsNumber : (Errand → Option Errand) → Type 0
KeepsNumber f = (e e' : Errand) → errand_within e ≡ true → f e ≡ Some e' → Remains e e'

-- The errand of the number n becomes what f makes of it, if anything.
abbrev pub errand_at : (Errand → Option Errand) → ℕ → Errand → Option Errand
errand_at = at_number (λ (e : Errand). e.number)

pub none_keeps : KeepsNumber (λ _. None)
none_keeps e e' within is = cc

pub less_keeps : KeepsNumber one_less
less_keeps e e' within is =
    let less : Errand = record { number = e.number; units = pred e.units; worth = e.worth } in
    ⊎_elim
    (λ last. let none : None ≡ Some e' = sym (cond-true _ _ _ last) ∙ is in cc)
    (λ (more : leb e.units 1 ≡ false).
    let found : Some less ≡ Some e' = sym (cond-false _ _ _ more) ∙ is in
    let same : less ≡ e' = cc in
    let fits : errand_within less ≡ true = grind (arith, nat_tests) in
    subst (Remains e) same (record { number = refl; within = fits }))
    (cases_Bool (leb e.units 1))

-- There are no more than before.
at_most : {A : Type 0} (o : Option A) (xs : List A) → length (cons_option o xs) ≤ suc (length xs)
at_most None xs = omega arith
at_most (Some x) xs = omega arith

pub no_more : {A : Type 0} (f : A → Option A) (xs : List A) → length (filter_map f xs) ≤ length xs
no_more f [] = omega arith
no_more f (x ∷ xs) = omega (arith, at_most (f x) (filter_map f xs), no_more f xs)

module _ (f : Errand → Option Errand) (n : ℕ) where
  own_is_changed : (e : Errand) → e.number ≡ n → errand_at f n e ≡ f e
  own_is_changed e same = cond-true _ _ _ (eq-eqb _ _ same)

  other_is_same : (e : Errand) → (e.number ≡ n → ⊥) → errand_at f n e ≡ Some e
  other_is_same = other_stays (λ (x : Errand). x.number) f n

  -- Errands of other numbers stay.
  untouched : (es : List Errand) → look es n ≡ None → filter_map (errand_at f n) es ≡ es
  untouched es none = all_stay (λ (x : Errand). x) f n es (ap (λ ys. look ys n) (map-id es) ∙ none)

  -- Behind the errand of the number, none is changed.
  own_first : (e : Errand) (es : List Errand) → e.number ≡ n → FirstOnce e es → filter_map (errand_at f n) (e ∷ es) ≡ cons_option (f e) es
  own_first e es same once =
      ap (λ o. cons_option o (filter_map (errand_at f n) es)) (own_is_changed e same)
      ∙ ap (cons_option (f e)) (untouched es (ap (look es) (sym same) ∙ once.alone))

  other_first : (e : Errand) (es : List Errand) → (e.number ≡ n → ⊥) →
      filter_map (errand_at f n) (e ∷ es) ≡ e ∷ filter_map (errand_at f n) es
  other_first e es apart = ap (λ o. cons_option o (filter_map (errand_at f n) es)) (other_is_same e apart)

  module _ (keeps : KeepsNumber f) where
    -- What one errand became, in front of others.
    look_own : (e : Errand) (es : List Errand) (o : Option Errand) → f e ≡ o → FirstOnce e es
        → look (cons_option o es) e.number ≡ o
    look_own e es None is once = once.alone
    look_own e es (Some e') is once =
        let same = (keeps e e' once.within is).number in
        ap (look (e' ∷ es)) (sym same) ∙ look_first e' es

    look_past : (e : Errand) (es : List Errand) (o : Option Errand) → f e ≡ o → errand_within e ≡ true → (k : ℕ) → (e.number ≡ k → ⊥)
        → look (cons_option o es) k ≡ look es k
    look_past e es None is within k apart = refl
    look_past e es (Some e') is within k apart =
        none_past e' es k (λ same. apart (sym (keeps e e' within is).number ∙ same))

    first_changed_once : (e : Errand) (es : List Errand) (o : Option Errand) → f e ≡ o → FirstOnce e es
        → distinct (cons_option o es) ≡ true
    first_changed_once e es None is once = once.rest
    first_changed_once e es (Some e') is once =
        let remains = keeps e e' once.within is in
        once_more e' es (record { within = remains.within; alone = ap (look es) remains.number ∙ once.alone; rest = once.rest })

    pub look_changed : (es : List Errand) (e : Errand) → distinct es ≡ true → look es n ≡ Some e
        → look (filter_map (errand_at f n) es) n ≡ f e
    look_changed [] e once found = cc
    look_changed (x ∷ es) e once found =
        let first = first_once x es once in
        ⊎_elim
        (λ (same : x.number ≡ n).
        let is : Some x ≡ Some e = sym (cond-true _ _ _ (eq-eqb _ _ same)) ∙ found in
        let x-is : x ≡ e = cc in
        ap (λ ys. look ys n) (own_first x es same first)
        ∙ ap (look (cons_option (f x) es)) (sym same)
        ∙ look_own x es (f x) refl first
        ∙ ap f x-is)
        (λ (apart : x.number ≡ n → ⊥).
        ap (λ ys. look ys n) (other_first x es apart)
        ∙ none_past x (filter_map (errand_at f n) es) n apart
        ∙ look_changed es e first.rest (sym (none_past x es n apart) ∙ found))
        (cases_eq x.number n)

    pub look_others : (es : List Errand) (k : ℕ) → distinct es ≡ true → (k ≡ n → ⊥)
        → look (filter_map (errand_at f n) es) k ≡ look es k
    look_others [] k once other = refl
    look_others (x ∷ es) k once other =
        let first = first_once x es once in
        ⊎_elim
        (λ (same : x.number ≡ n).
        let apart : x.number ≡ k → ⊥ = λ is. other (sym is ∙ same) in
        ap (λ ys. look ys k) (own_first x es same first)
        ∙ look_past x es (f x) refl first.within k apart
        ∙ sym (none_past x es k apart))
        (λ (apart : x.number ≡ n → ⊥).
        ap (λ ys. look ys k) (other_first x es apart)
        ∙ ap (cond (eqb x.number k) (Some x)) (look_others es k first.rest other))
        (cases_eq x.number n)

    pub changed_once : (es : List Errand) → distinct es ≡ true → distinct (filter_map (errand_at f n) es) ≡ true
    changed_once [] once = refl
    changed_once (x ∷ es) once =
        let first = first_once x es once in
        ⊎_elim
        (λ (same : x.number ≡ n). ap distinct (own_first x es same first) ∙ first_changed_once x es (f x) refl first)
        (λ (apart : x.number ≡ n → ⊥).
        ap distinct (other_first x es apart)
        ∙ once_more x (filter_map (errand_at f n) es)
        (record {
          within = first.within;
          alone = look_others es x.number first.rest apart ∙ first.alone;
          rest = changed_once es first.rest;
        }))
        (cases_eq x.number n)

-- An errand that is put behind the others.
pub look_joined : (es : List Errand) (e : Errand) → look es e.number ≡ None → look (es ++ e ∷ []) e.number ≡ Some e
look_joined [] e none = look_first e []
look_joined (x ∷ es) e none =
    none_past x (es ++ e ∷ []) e.number (none_apart x es e.number none) ∙ look_joined es e (none_behind x es e.number none)

pub look_before : (es : List Errand) (e : Errand) (k : ℕ) → (k ≡ e.number → ⊥) → look (es ++ e ∷ []) k ≡ look es k
look_before [] e k apart = none_past e [] k (λ same. apart (sym same))
look_before (x ∷ es) e k apart = ap (cond (eqb x.number k) (Some x)) (look_before es e k apart)

pub joined_once : (es : List Errand) (e : Errand) → errand_within e ≡ true → look es e.number ≡ None → distinct es ≡ true
    → distinct (es ++ e ∷ []) ≡ true
joined_once [] e within none once = once_more e [] (record { within = within; alone = refl; rest = refl })
joined_once (x ∷ es) e within none once =
    let first = first_once x es once in
    once_more x (es ++ e ∷ [])
    (record {
      within = first.within;
      alone = look_before es e x.number (none_apart x es e.number none) ∙ first.alone;
      rest = joined_once es e within (none_behind x es e.number none) first.rest;
    })
