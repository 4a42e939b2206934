-- What a search for the least number finds, and that it finds what is there; and the same where the search stands in
-- a test of whether it finds anything.
use Rattle.std.proofs.Common.{◌≡◌, ℕ, zero, suc, ◌+◌, ◌<◌, ◌≤◌, Bool, true, false, is_some, Some, None, Option, sym, refl, ap, ◌∙◌, ⊎_elim, arith}
use Rattle.std.proofs.lemmas.Bool.{cases_Bool, cases_order, both_ways}
use Rattle.model.specs.Searches.{least}

-- w is the least of the n numbers from `low` on that passes.
pub record IsLeast (passes : ℕ → Bool) (low n w : ℕ) : Type 0 where
  pub passed : passes w ≡ true
  pub above : low ≤ w
  pub below : w < low + n
  pub first : (v : ℕ) → low ≤ v → v < w → passes v ≡ false

module _ (passes : ℕ → Bool) where
  pub least_here : (low n : ℕ) → passes low ≡ true → least passes low (suc n) ≡ Some low
  least_here low n h = rw (h, least)

  pub least_next : (low n : ℕ) → passes low ≡ false → least passes low (suc n) ≡ least passes (suc low) n
  least_next low n h = rw (h, least)

  -- Where no number passes, there is none.
  pub least_none : (low n : ℕ) → ((v : ℕ) → low ≤ v → v < low + n → passes v ≡ false) → least passes low n ≡ None
  least_none low zero no-pass = refl
  least_none low (suc n) no-pass =
      least_next low n (no-pass low (omega arith) (omega arith))
      ∙ least_none (suc low) n (λ v a b. no-pass v (omega arith) (omega arith))

  -- The first number that passes is the least.
  pub least_is : (low n w : ℕ) → IsLeast passes low n w → least passes low n ≡ Some w
  least_is low zero w h = absurd (omega (arith, h.above, h.below))
  least_is low (suc n) w h =
      ⊎_elim
      (λ e. least_here low n (rw (← e) at h).passed ∙ ap Some e)
      (⊎_elim
      (λ lt. least_next low n (h.first low (omega arith) lt)
      ∙ least_is (suc low) n w (record { passed = h.passed; above = omega arith; below = omega (arith, h.below); first = λ v a b. h.first v (omega arith) b }))
      (λ gt. absurd (omega (arith, h.above))))
      (cases_order low w)

  -- What is found is the least.
  pub least_found : (low n w : ℕ) → least passes low n ≡ Some w → IsLeast passes low n w
  least_found low zero w e = absurd (let z : ◌≡◌ {A = ℕ} 0 1 = cc in omega arith)
  least_found low (suc n) w e =
      ⊎_elim
      (λ t. let same : low ≡ w = cc (e, least_here low n t) in
      record { passed = rw (← same) t; above = omega arith; below = omega arith; first = λ v a b. absurd (omega arith) })
      (λ f. let rest = least_found (suc low) n w (sym (least_next low n f) ∙ e) in
      record {
        passed = rest.passed;
        above = omega (arith, rest.above);
        below = omega (arith, rest.below);
        first = λ v a b. ⊎_elim (λ same. rw (← same) f) (⊎_elim (λ lt. rest.first v lt b) (λ gt. absurd (omega arith))) (cases_order low v);
      })
      (cases_Bool (passes low))

  -- Nothing is found only where no number passes.
  pub none_passes : (low n : ℕ) → least passes low n ≡ None → (v : ℕ) → low ≤ v → v < low + n → passes v ≡ false
  none_passes low zero e v a b = absurd (omega arith)
  none_passes low (suc n) e v a b =
      ⊎_elim
      (λ t. absurd (let z : ◌≡◌ {A = ℕ} 0 1 = cc (e, least_here low n t) in omega arith))
      (λ f. ⊎_elim (λ same. rw (← same) f) (⊎_elim (λ lt. none_passes (suc low) n (sym (least_next low n f) ∙ e) v lt (omega arith)) (λ gt. absurd (omega arith))) (cases_order low v))
      (cases_Bool (passes low))

-- An option as a test.
pub some_is : {X : Type 0} (o : Option X) → is_some o ≡ true → (x : X) × (o ≡ Some x)
some_is None h = absurd (both_ways false refl h)
some_is (Some x) h = (x, refl)

pub none_is : {X : Type 0} (o : Option X) → is_some o ≡ false → o ≡ None
none_is None h = refl
none_is (Some x) h = absurd (both_ways true h refl)

module _ (passes : ℕ → Bool) (low n : ℕ) where
  -- A search that finds something finds the least that passes.
  pub search_finds : is_some (least passes low n) ≡ true → (w : ℕ) × IsLeast passes low n w
  search_finds h = let (w, found) = some_is (least passes low n) h in (w, least_found passes low n w found)

  -- A search that finds nothing passes over every number.
  pub search_fails : is_some (least passes low n) ≡ false → (v : ℕ) → low ≤ v → v < low + n → passes v ≡ false
  search_fails h = none_passes passes low n (none_is (least passes low n) h)

  -- Where some number passes, the search finds one.
  pub search_succeeds : (v : ℕ) → low ≤ v → v < low + n → passes v ≡ true → is_some (least passes low n) ≡ true
  search_succeeds v above below passed =
      ⊎_elim
      (λ found. found)
      (λ fails. absurd (both_ways (passes v) (search_fails fails v above below) passed))
      (cases_Bool (is_some (least passes low n)))
