-- An insertion that is left to the analysis: what refuses it, what it leaves, and that its duties keep their limits.
use Rattle.std.proofs.Common.{◌≡◌, ℕ, zero, suc, ◌<◌, ◌≤◌, true, not, List, [], ◌∷◌, ◌++◌, length, take, drop, refl, ap, ◌∙◌, arith}
use Rattle.std.specs.List.{insert}
use Rattle.std.proofs.lemmas.Bool.{and_from, and_parts, cond-false, le-ltb, lt-leb}
use Rattle.model.specs.Table.{add_refusal, after_add, all_within, first_unschedulable, unschedulable_refusal, within_limits}
use Rattle.model.specs.declared.duties.Duty.{Duty}
use Rattle.table.proofs.Limits.{within_take}

module _ (table : List Duty) (place : ℕ) (d : Duty) where
  -- A refused insertion leaves the table.
  pub refused_leaves : (n : ℕ) (ns : List ℕ) → add_refusal table place d ≡ n ∷ ns → after_add table place d ≡ table
  refused_leaves n ns e = rw (e, after_add)

  -- Where the place, the duty and the room are good, the analysis decides.
  pub by_analysis : place ≤ length table → within_limits d ≡ true → length table < 16
      → add_refusal table place d ≡ unschedulable_refusal (first_unschedulable (insert table place d))
  by_analysis near good room =
      cond-false _ _ _ (le-ltb _ _ near) ∙ cond-false _ _ _ (ap not good) ∙ cond-false _ _ _ (lt-leb _ _ room)

-- Limits are kept by what is left of a table, by joining two, and so by an insertion.
within_drop : (n : ℕ) (ds : List Duty) → all_within ds ≡ true → all_within (drop n ds) ≡ true
within_drop zero ds h = h
within_drop (suc n) [] h = refl
within_drop (suc n) (d ∷ ds) h = within_drop n ds (and_parts _ _ h).1

within_append : (ds es : List Duty) → all_within ds ≡ true → all_within es ≡ true → all_within (ds ++ es) ≡ true
within_append [] es h k = k
within_append (d ∷ ds) es h k =
    let both = and_parts _ _ h in
    and_from _ _ both.0 (within_append ds es both.1 k)

pub within_inserted : (table : List Duty) (place : ℕ) (d : Duty)
    → all_within table ≡ true → within_limits d ≡ true → all_within (insert table place d) ≡ true
within_inserted table place d h good =
    within_append (take place table) (d ∷ drop place table) (within_take place table h)
    (and_from _ _ good (within_drop place table h))
