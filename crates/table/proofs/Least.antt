-- `find` over a range of numbers finds the least that passes.
use Rattle.std.proofs.Common.{◌≡◌, ℕ, ◌+◌, ◌-◌, ◌<◌, ◌≤◌, Bool, true, false, Some, None, Option, IsTrue, IfSome, IsSomeAnd, MatchOption, option_map, sym, subst, ap, ◌∙◌, arith}
use Rattle.std.proofs.iter.Yields.{nat_range_steps}
use Rattle.std.proofs.iter.runs.Sources.{inclusive_listed, nat_range_inclusive_steps, range_runs}
use Rattle.std.specs.Borrow.{Bor}
use Rattle.std.specs.Fn.{CalledAt, Mut}
use Rattle.std.specs.Iterator.Runs.{CallKeepsClosure, EndsAtFirstPassing, ItemsCountUp, NoItemPasses, Run, SomeRun}
use Rattle.std.specs.Range.{range_inclusive_end, range_inclusive_exhausted, range_inclusive_start}
use Rattle.std.specs.declared.ops.Range.{Range}
use Rattle.std.specs.declared.ops.RangeInclusive.{RangeInclusive}
use Rattle.model.proofs.Searches.{least_is, least_none}
use Rattle.model.specs.Searches.{least}

itself : (o : Option ℕ) (n : ℕ) → option_map (λ y. y) o ≡ Some n → o ≡ Some n
itself None n e = cc
itself (Some x) n e = e

-- The closure answers at each number what the test does, and is left as it was.
pub record Tests {F : Type 0} (g : Mut F (Bor ℕ × Unit {0}) Bool) (f : F) (passes : ℕ → Bool) : Type 0 where
  pub keeps : CallKeepsClosure g f
  pub answers : (x : ℕ) (r : Bool) → CalledAt g f x r f → r ≡ passes x

module _ {F : Type 0} (g : Mut F (Bor ℕ × Unit {0}) Bool) (f : F) (passes : ℕ → Bool) (tests : Tests g f passes) where
  module _ {S : Type 0} {steps : S → Option ℕ → S → Type 0} (u : Run steps) (a b : ℕ) (up : ItemsCountUp u a b) where
    -- The number v comes at the place v - a.
    at_place : (v : ℕ) → a ≤ v → v - a < u.len → u.at (v - a) ≡ Some v
    at_place v low short =
        let same : a + (v - a) ≡ v = omega arith in
        rw same at (itself _ _ (up.3 (v - a) short))

    none_passes : u.whole ≡ true → NoItemPasses u g f → least passes a (b - a) ≡ None
    none_passes whole none =
        least_none passes a (b - a)
        (λ v low high.
        let e = at_place v low (omega (arith, up.1 whole)) in
        sym (tests.answers v false (subst (λ o. IfSome o (λ x. CalledAt g f x false f)) e (none tests.keeps (v - a)))))

    first_passes : (x : ℕ) → EndsAtFirstPassing u g f x → least passes a (b - a) ≡ Some x
    first_passes x (i, ends, at, calls) =
        let place : (x ≡ a + i) × (x < b) = subst (λ o. IfSome o (λ y. (y ≡ a + i) × (y < b))) at (up.2 i) in
        let called = calls tests.keeps in
        least_is passes a (b - a) x
        (record {
          passed = sym (tests.answers x true called.0);
          above = omega (arith, place.0);
          below = omega (arith, place.0, place.1);
          first = λ v low before.
              let e = at_place v low (omega (arith, place.0)) in
              sym (tests.answers v false (subst (λ o. IsSomeAnd o (λ y. CalledAt g f y false f)) e (called.1 (v - a) (omega (arith, place.0)))));
        })

    least_of_run : (r : Option ℕ) → MatchOption r (IsTrue u.whole × NoItemPasses u g f) (EndsAtFirstPassing u g f) → r ≡ least passes a (b - a)
    least_of_run None h = sym (none_passes h.0 h.1)
    least_of_run (Some x) h = sym (first_passes x h)

  -- From low to end - 1.
  pub least_in_range : (s : Range ℕ) (r : Option ℕ)
      → SomeRun nat_range_steps s (λ u. MatchOption r (IsTrue u.whole × NoItemPasses u g f) (EndsAtFirstPassing u g f))
      → r ≡ least passes s.start (s.end - s.start)
  least_in_range s r (u, from, found) =
      least_of_run u _ _ (range_runs u u.seen) r found
      ∙ ap (λ (t : Range ℕ). least passes t.start (t.end - t.start)) from

  -- From start to end.
  pub least_in_inclusive : (s : RangeInclusive ℕ) (r : Option ℕ) (low high : ℕ)
      → SomeRun nat_range_inclusive_steps s (λ u. MatchOption r (IsTrue u.whole × NoItemPasses u g f) (EndsAtFirstPassing u g f))
      → range_inclusive_start s ≡ low → range_inclusive_end s ≡ high → range_inclusive_exhausted s ≡ false
      → r ≡ least passes low (high + 1 - low)
  least_in_inclusive s r low high (u, from, found) starts ends fresh =
      let (a, b, at, behind, listed) = inclusive_listed u u.seen in
      let low-is : a ≡ low = at ∙ ap range_inclusive_start from ∙ starts in
      let high-is : b ≡ high + 1 = behind ∙ ap (λ (t : RangeInclusive ℕ). range_inclusive_end t + 1) from ∙ ap (λ n. n + 1) ends in
      rw (low-is, high-is) at (least_of_run u a b (listed (ap range_inclusive_exhausted from ∙ fresh)).0 r found)
