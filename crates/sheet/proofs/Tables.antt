-- The table of every sheet is admitted: the empty table is, and a duty is added only where the new table is.
use Rattle.std.proofs.Common.{◌≡◌, ℕ, ◌<◌, ◌≤◌, Bool, true, false, cond, List, [], ◌∷◌, length, is_some, Some, None, Ok, Option, sym, refl, subst, arith}
use Rattle.std.specs.List.{insert}
use Rattle.std.proofs.lemmas.Bool.{and_from, leb-false, le-leb, ltb-false, not-false, not_from_false}
use Rattle.std.proofs.lemmas.List.Edits.{length-insert}
use Rattle.model.proofs.Admitted.{admitted_says}
use Rattle.model.specs.Table.{add_refusal, admitted, unschedulable_refusal}
use Rattle.model.specs.declared.duties.Duty.{Duty}
use Rattle.table.proofs.Admission.{within_inserted}
use Rattle.forms.specs.Lines.{Line, first_position, lines}
use Rattle.forms.specs.Sayings.{says}
use Rattle.forms.specs.declared.sayings.Said.{Said}
use Rattle.forms.specs.declared.sayings.Said.TheVariants.{Duty as AddDuty}
use Rattle.sheet.specs.Orders.{SoFar, line_judged, nothing_read, with_said}
use Rattle.sheet.specs.Sheets.{Set, sheet_of}
use Rattle.sheet.proofs.Kept.{lines_keep, taken_up, text_is_read}

-- Where nothing is refused, the first test of a refusal fails, and the later ones refuse nothing.
no_refusal : (b : Bool) (n : ℕ) (rest : List ℕ) → cond b (n ∷ []) rest ≡ [] → (b ≡ false) × (rest ≡ [])
no_refusal true n rest e = cc
no_refusal false n rest e = (refl, e)

all_schedulable : (o : Option ℕ) → unschedulable_refusal o ≡ [] → is_some o ≡ false
all_schedulable None e = refl
all_schedulable (Some row) e = cc

-- What an addition to an admitted table leaves is admitted.
module _ (table : List Duty) (place : ℕ) (d : Duty) (ok : admitted table ≡ true) where
  inserted_few : place ≤ length table → length table < 16 → length (insert table place d) ≤ 16
  inserted_few near room = omega (arith, length-insert table place d near)

  accepted_admitted : add_refusal table place d ≡ [] → admitted (insert table place d) ≡ true
  accepted_admitted accepted =
      let near = no_refusal _ 1 _ accepted in
      let good = no_refusal _ 2 _ near.1 in
      let room = no_refusal _ 3 _ good.1 in
      let within = within_inserted table place d (admitted_says table ok).within (not-false _ good.0) in
      let few = inserted_few (ltb-false _ _ near.0) (leb-false _ _ room.0) in
      and_from _ _ (and_from _ _ (le-leb _ _ few) within) (not_from_false _ (all_schedulable _ room.1))

  after_admitted : (r : List ℕ) → add_refusal table place d ≡ r
      → admitted (elim r as (λ x. List Duty) [ [] ↦ insert table place d | ◌∷◌ n ns ↦ table ]) ≡ true
  after_admitted [] accepted = accepted_admitted accepted
  after_admitted (n ∷ ns) refused = ok

-- So is the table after each line,
said_admitted : (s : SoFar) (l : Line) (said : Said) → admitted s.table ≡ true → admitted (with_said s l said).table ≡ true
said_admitted s l (AddDuty place d) ok = after_admitted s.table place d ok (add_refusal s.table place d) refl
said_admitted s l said ok = ok

line_admitted : (s u : SoFar) (l : Line) → line_judged s l ≡ Ok u → admitted s.table ≡ true → admitted u.table ≡ true
line_admitted s u l judged ok =
    subst (λ (v : SoFar). admitted v.table ≡ true) (sym (taken_up s u l judged).adds) (said_admitted s l (says l) ok)

-- and after all of them.
pub sheet_admitted : (text : List ℕ) (set : Set) → sheet_of text ≡ Ok set → admitted set.table ≡ true
sheet_admitted text set e =
    let read = text_is_read text set e in
    subst (λ (s : Set). admitted s.table ≡ true) (sym read.is)
    (lines_keep (λ ls s. admitted s.table ≡ true) (λ s u l ls judged ok. line_admitted s u l judged ok) (lines first_position text) nothing_read
    read.last refl read.lines)
