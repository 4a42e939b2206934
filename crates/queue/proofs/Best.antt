-- The queue by worth chooses the best of those that wait. Of those seen so far one is the best at each step of the search: it is better
-- than all before it, and none behind it is better. That nothing has a worth for 0 units makes "is not better than" transitive.
use Rattle.std.proofs.Common.{◌≡◌, ℕ, ◌≤◌, Bool, true, false, not, ◌&&◌, leb, List, [], ◌∷◌, ◌++◌, map, Some, None, Option, sym, refl, ap, ◌∙◌, subst, ⊎_elim, append_assoc, append-nil, le_of_lt, arith}
use Rattle.std.specs.List.{cons_option, filter_map, list_all}
use Rattle.std.specs.Option.{option_map}
use Rattle.std.proofs.lemmas.Bool.{and_from, and_parts, both_ways, cases_Bool, cond_both, leb-true, le-ltb, ltb-false, ltb-true, not_from_false, not-true}
use Rattle.model.specs.Histories.{Event, History, was_put, was_spent, was_taken}
use Rattle.model.specs.Queues.{one_less}
use Rattle.queue.specs.Arrivals.{Arrival, Rated, after, after_all, arrived, best_from, best_of, better, by_worth, taken, rated, spent}
use Rattle.queue.specs.Best.{Best, BestWorthIsBest, puts_some}
use Rattle.queue.proofs.AtNumber.{Keeps, keeps_at_number}
use Rattle.queue.proofs.Waiting.{less_waits, waits_as}
use Rattle.queue.specs.Ranks.{no_more_worth_transitive}

all_join : {A : Type 0} (p : A → Bool) (xs ys : List A) → list_all p xs ≡ true → list_all p ys ≡ true → list_all p (xs ++ ys) ≡ true
all_join p [] ys h k = k
all_join p (x ∷ xs) ys h k = let q = and_parts _ _ h in and_from _ _ q.0 (all_join p xs ys q.1 k)

-- It is rated by at least one unit.
abbrev some_units : Rated → Bool
some_units a = leb 1 a.units

-- What is not better than x, which is not better than b, is not better than b.
better_negatively_transitive : (a x b : Rated) → some_units x ≡ true → better a x ≡ false → better x b ≡ false → better a b ≡ false
better_negatively_transitive a x b some h k =
    let most : 1 ≤ x.units = leb-true _ _ some in
    le-ltb _ _
    (no_more_worth_transitive a.worth a.units x.worth x.units b.worth b.units (omega arith)
    (ltb-false _ _ h) (ltb-false _ _ k))

better_asymmetric : (a b : Rated) → better a b ≡ true → better b a ≡ false
better_asymmetric a b h = le-ltb _ _ (le_of_lt (ltb-true _ _ h))

-- What is better than b is better than each that b is better than, and than each that is not better than b.
better_behind : (a b x : Rated) → some_units x ≡ true → better a b ≡ true → better x b ≡ false → better a x ≡ true
better_behind a b x some h k =
    ⊎_elim (λ t. t) (λ f. absurd (both_ways (better a b) (better_negatively_transitive a x b some f k) h)) (cases_Bool (better a x))

beats_beaten : (a b : Rated) → better a b ≡ true → (xs : List Rated) → list_all some_units xs ≡ true →
    list_all (better b) xs ≡ true → list_all (better a) xs ≡ true
beats_beaten a b h [] some k = refl
beats_beaten a b h (x ∷ xs) some k =
    let p = and_parts _ _ some in
    let q = and_parts _ _ k in
    and_from _ _ (better_behind a b x p.0 h (better_asymmetric b x q.0)) (beats_beaten a b h xs p.1 q.1)

beats_no_better : (a b : Rated) → better a b ≡ true → (xs : List Rated) → list_all some_units xs ≡ true →
    list_all (λ x. not (better x b)) xs ≡ true → list_all (better a) xs ≡ true
beats_no_better a b h [] some k = refl
beats_no_better a b h (x ∷ xs) some k =
    let p = and_parts _ _ some in
    let q = and_parts _ _ k in
    and_from _ _ (better_behind a b x p.0 h (not-true _ q.0)) (beats_no_better a b h xs p.1 q.1)

-- Of those that came so far b is the best; the rest come one by one.
best_so_far : (earlier : List Rated) (b : Rated) (later rest : List Rated)
    → list_all some_units earlier ≡ true → some_units b ≡ true → list_all some_units later ≡ true → list_all some_units rest ≡ true
    → list_all (better b) earlier ≡ true → list_all (λ a. not (better a b)) later ≡ true
    → Best ((earlier ++ b ∷ later) ++ rest) (best_from b rest).errand.number
best_so_far earlier b later [] some-earlier some-b some-later some-rest better_than_earlier none_later_better =
    record {
      earlier = earlier;
      best = b;
      later = later;
      parts = append-nil (earlier ++ b ∷ later);
      number = refl;
      better_than_earlier = better_than_earlier;
      none_later_better = none_later_better;
    }
best_so_far earlier b later (a ∷ rest) some-earlier some-b some-later some-rest better_than_earlier none_later_better =
    let so_far = earlier ++ b ∷ later in
    let p = and_parts _ _ some-rest in
    cond_both (better a b) a b (λ x. Best (so_far ++ a ∷ rest) (best_from x rest).errand.number)
    (λ t.
    subst (λ xs. Best xs (best_from a rest).errand.number) (append_assoc so_far (a ∷ []) rest)
    (best_so_far so_far a [] rest
    (all_join some_units earlier (b ∷ later) some-earlier (and_from _ _ some-b some-later)) p.0 refl p.1
    (all_join (better a) earlier (b ∷ later) (beats_beaten a b t earlier some-earlier better_than_earlier)
    (and_from _ _ t (beats_no_better a b t later some-later none_later_better))) refl))
    (λ f.
    subst (λ xs. Best xs (best_from b rest).errand.number)
    (ap (λ xs. xs ++ rest) (sym (append_assoc earlier (b ∷ later) (a ∷ []))) ∙ append_assoc so_far (a ∷ []) rest)
    (best_so_far earlier b (later ++ a ∷ []) rest some-earlier some-b
    (all_join some_units later (a ∷ []) some-later (and_from _ _ p.0 refl)) p.1 better_than_earlier
    (all_join (λ x. not (better x b)) later (a ∷ []) none_later_better (and_from _ _ (not_from_false _ f) refl))))

best_of_is_best : (came : List Rated) (n : ℕ) → list_all some_units came ≡ true → best_of came ≡ Some n → Best came n
best_of_is_best [] n some is = cc
best_of_is_best (a ∷ came) n some is =
    let same : (best_from a came).errand.number ≡ n = cc in
    let p = and_parts _ _ some in
    subst (λ k. Best (a ∷ came) k) same (best_so_far [] a [] came refl p.0 refl p.1 refl refl)

-- It was put with at least one unit.
abbrev put_some : Arrival → Bool
put_some a = leb 1 a.put.units

-- Those that wait were put.
changed_some : (change : Arrival → Option Arrival) → Keeps (λ (a : Arrival). a.put) change → (came : List Arrival) →
    list_all put_some came ≡ true → list_all put_some (filter_map change came) ≡ true
changed_some change keeps [] some = refl
changed_some change keeps (a ∷ came) some =
    let p = and_parts _ _ some in
    let rest = changed_some change keeps came p.1 in
    (elim (change a) as (λ o. change a ≡ o → list_all put_some (cons_option o (filter_map change came)) ≡ true) [
      | None ↦ λ _. rest
      | Some b ↦ λ e. and_from _ _ (ap (λ put. leb 1 put.units) (keeps a b e) ∙ p.0) rest
    ])
    refl

taken_keeps_put : (n : ℕ) → Keeps (λ (a : Arrival). a.put) (taken n)
taken_keeps_put = keeps_at_number (λ (a : Arrival). a.put) (λ (a : Arrival). a.waits.number) (λ _. None) (λ a b is. cc)

spent_keeps_put : (n : ℕ) → Keeps (λ (a : Arrival). a.put) (spent n)
spent_keeps_put =
    keeps_at_number (λ (a : Arrival). a.put) (λ (a : Arrival). a.waits.number) less_waits
    (λ a b. (elim (one_less a.waits) as (λ o. option_map (waits_as a) o ≡ Some b → b.put ≡ a.put) [
      | None ↦ λ is. cc
      | Some e ↦ λ is. let same : waits_as a e ≡ b = cc in ap (λ y. y.put) (sym same)
    ]))

after_some : (came : List Arrival) (x : Event) → puts_some x ≡ true → list_all put_some came ≡ true →
    list_all put_some (after came x) ≡ true
after_some came (was_put e) h some =
    all_join put_some came (record { put = e; waits = e } ∷ []) some (and_from _ _ h refl)
after_some came (was_spent n) h some = changed_some (spent n) (spent_keeps_put n) came some
after_some came (was_taken n) h some = changed_some (taken n) (taken_keeps_put n) came some

after_all_some : (came : List Arrival) (past : History) → list_all puts_some past ≡ true → list_all put_some came ≡ true →
    list_all put_some (after_all came past) ≡ true
after_all_some came [] h some = some
after_all_some came (x ∷ past) h some =
    let p = and_parts _ _ h in after_all_some (after came x) past p.1 (after_some came x p.0 some)

rated_some : (came : List Arrival) → list_all some_units (map (rated (λ e. e.worth) (λ e. e.units)) came) ≡ list_all put_some came
rated_some [] = refl
rated_some (a ∷ came) = ap (λ b. put_some a && b) (rated_some came)

pub best_worth_is_best : BestWorthIsBest
best_worth_is_best past n some is =
    best_of_is_best (by_worth past) n (rated_some (arrived past) ∙ after_all_some [] past some refl) is
