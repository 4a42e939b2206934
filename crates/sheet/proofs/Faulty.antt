-- A line's checks find exactly the faults that it has by the rules, in the order in which they count. So the first check that finds a
-- fault finds the one that counts, and a line without a fault sets what it says.
use Rattle.std.proofs.Common.{◌≡◌, ℕ, suc, ◌+◌, ◌<◌, ◌≤◌, Bool, true, false, ◌&&◌, ◌||◌, List, [], ◌∷◌, ◌++◌, length, Some, None, Ok, Err, Option, is_some, sym, refl, ap, ◌∙◌, subst, inl, inr, ⊎_elim, arith}
use Rattle.std.proofs.lemmas.Bool.{and_cases, and_from, and_left, and_right, and_parts, cases_Bool, le-ltb, leb-false, ltb-false, or_parts, or_from}
use Rattle.std.proofs.lemmas.Bool.Decides.{nat_tests}
use Rattle.model.specs.Table.{add_refusal}
use Rattle.model.specs.declared.duties.Duty.{Duty}
use Rattle.forms.specs.Faults.{Fault, fault, unless}
use Rattle.forms.specs.Forms.{is_form, is_remark}
use Rattle.forms.specs.Grammar.{all_of}
use Rattle.forms.specs.Items.{further, numbers_fit}
use Rattle.forms.specs.Lines.{Line, allowed, bad_letter, next_byte}
use Rattle.forms.specs.Sayings.{end_fits, fault_12, fault_13, fault_14, fault_15, forms_faults, letters_faults, said, says}
use Rattle.forms.specs.declared.faults.Layer.{Layer}
use Rattle.forms.specs.declared.faults.Layer.TheVariants.{Letters, Forms, Sheet as SheetLayer}
use Rattle.forms.specs.declared.faults.Position.{Position}
use Rattle.forms.specs.declared.sayings.Said.{Said}
use Rattle.forms.specs.declared.sayings.Said.TheVariants.{Duty as AddDuty, At, End, Remark}
use Rattle.sheet.specs.Ats.{AtLine}
use Rattle.sheet.specs.Orders.{SoFar, fault_16, fault_17, fault_of_table, has_room, in_order, line_judged, refused_at, sheet_faults, table_faults, table_says, with_said}
use Rattle.sheet.specs.Rules.{Before, Counts, Has, bad_letter as BadLetter, not_ended, no_form, wrong_items, large_number, large_end, out_of_order, no_room, refused, rank}
use Rattle.sheet.specs.Reports.{table_fault}
use Rattle.sheet.proofs.Firsts.{OneOf, Ordered, first_judged, judged_first, judged_without, without_judged}
use Rattle.sheet.proofs.Judgements.{judged_value}

abbrev pub checks : SoFar → Line → List (Option Fault)
checks s l = letters_faults l ++ forms_faults l ++ sheet_faults s l ++ table_faults s l

-- Where a test fails, its fault is there.
failed : (t : Bool) (f : Fault) → t ≡ false → unless t f ≡ Some f
failed t f e = ap (λ u. unless u f) e

failing : (t : Bool) (f g : Fault) → unless t f ≡ Some g → (t ≡ false) × (f ≡ g)
failing true f g e = cc
failing false f g e = (refl, cc)

-- The first byte that is not allowed.
record Bad (p : Position) (bs : List ℕ) (f : Fault) : Type 0 where
  good : List ℕ
  rest : List ℕ
  b : ℕ
  whole : bs ≡ good ++ (b ∷ rest)
  all : all_of allowed good ≡ true
  bad : allowed b ≡ false
  fault_is : fault 12 Letters (further p (length good)) ≡ f

none_further : (p : Position) → fault 12 Letters (further p 0) ≡ fault 12 Letters p
none_further p = let same : p.byte + 0 ≡ p.byte = omega arith in ap (λ n. fault 12 Letters (record { line = p.line; byte = n })) same

one_further : (p : Position) (n : ℕ) → fault 12 Letters (further p (suc n)) ≡ fault 12 Letters (further (next_byte p) n)
one_further p n =
    let same : p.byte + suc n ≡ p.byte + 1 + n = omega arith in ap (λ k. fault 12 Letters (record { line = p.line; byte = k })) same

bad_found : (p : Position) (bs : List ℕ) (f : Fault) → bad_letter p bs ≡ Some f → Bad p bs f
bad_found p [] f e = cc
bad_found p (b ∷ bs) f e =
    ⊎_elim
    (λ t.
    let r = bad_found (next_byte p) bs f (rw t at e) in
    record {
      good = b ∷ r.good;
      rest = r.rest;
      b = r.b;
      whole = ap (λ xs. b ∷ xs) r.whole;
      all = and_from (allowed b) (all_of allowed r.good) t r.all;
      bad = r.bad;
      fault_is = one_further p (length r.good) ∙ r.fault_is;
    })
    (λ fails.
    let here : Some (fault 12 Letters p) ≡ Some f = rw fails at e in
    record { good = []; rest = bs; b = b; whole = refl; all = refl; bad = fails; fault_is = none_further p ∙ cc })
    (cases_Bool (allowed b))

found_bad : (p : Position) (good rest : List ℕ) (b : ℕ) → all_of allowed good ≡ true → allowed b ≡ false
    → bad_letter p (good ++ (b ∷ rest)) ≡ Some (fault 12 Letters (further p (length good)))
found_bad p [] rest b all bad = rw bad (ap Some (sym (none_further p)))
found_bad p (g ∷ good) rest b all bad =
    let both = and_parts (allowed g) (all_of allowed good) all in
    rw both.0 (found_bad (next_byte p) good rest b both.1 bad ∙ ap Some (sym (one_further p (length good))))

-- A line that begins as a remark is one.
remark_says : (l : Line) → is_remark l.bytes ≡ true → says l ≡ Remark
remark_says l e = rw e

record LargeEnd (what : Said) : Type 0 where
  ticks : ℕ
  is : what ≡ End ticks
  large : 10000 < ticks

end_too_large : (what : Said) → end_fits what ≡ false → LargeEnd what
end_too_large (End ticks) e = record { ticks = ticks; is = refl; large = leb-false ticks 10000 e }
end_too_large what e = cc

large_end_unfit : (what : Said) (ticks : ℕ) → what ≡ End ticks → 10000 < ticks → end_fits what ≡ false
large_end_unfit what ticks e large = ap end_fits e ∙ grind (arith, nat_tests)

record Full (ats : List AtLine) (what : Said) : Type 0 where
  clock : ℕ
  is : what ≡ At clock
  full : 256 ≤ length ats

full_found : (ats : List AtLine) (what : Said) → has_room ats what ≡ false → Full ats what
full_found ats (At clock) e = record { clock = clock; is = refl; full = ltb-false (length ats) 256 e }
full_found ats what e = cc

found_full : (ats : List AtLine) (what : Said) (clock : ℕ) → what ≡ At clock → 256 ≤ length ats → has_room ats what ≡ false
found_full ats what clock e full = ap (has_room ats) e ∙ le-ltb (length ats) 256 full

record Refused (table : List Duty) (p : Position) (what : Said) (f : Fault) : Type 0 where
  place : ℕ
  duty : Duty
  number : ℕ
  values : List ℕ
  is : what ≡ AddDuty place duty
  code : add_refusal table place duty ≡ number ∷ values
  fault_is : table_fault p (number ∷ values) ≡ f

refusal_found : (table : List Duty) (p : Position) (place : ℕ) (d : Duty) (f : Fault) (code : List ℕ) → add_refusal table place d ≡ code
    → refused_at p code ≡ Some f → Refused table p (AddDuty place d) f
refusal_found table p place d f [] same e = cc
refusal_found table p place d f (number ∷ values) same e =
    record { place = place; duty = d; number = number; values = values; is = refl; code = same; fault_is = cc }

table_found : (table : List Duty) (p : Position) (what : Said) (f : Fault) → table_says table p what ≡ Some f → Refused table p what f
table_found table p (AddDuty place d) f e = refusal_found table p place d f (add_refusal table place d) refl e
table_found table p what f e = cc

module _ (s : SoFar) (l : Line) where
  -- What the rules say, the checks find.
  pub found : (f : Fault) → Has s l f → OneOf (checks s l) f
  found f (BadLetter good rest b whole all bad) = inl (ap (bad_letter l.position) whole ∙ found_bad l.position good rest b all bad)
  found f (not_ended fails) = inr (inl (failed (l.ended && is_form l.bytes) (fault 13 Forms l.position) (and_left l.ended (is_form l.bytes) fails)))
  found f (no_form fails) = inr (inl (failed (l.ended && is_form l.bytes) (fault 13 Forms l.position) (and_right l.ended (is_form l.bytes) fails)))
  found f (wrong_items fails) = inr (inr (inl (failed (is_some (said l.bytes)) (fault 14 Forms l.position) (ap is_some fails))))
  found f (large_number plain large) =
      inr (inr (inr (inl (failed (is_remark l.bytes || (numbers_fit l.bytes && end_fits (says l))) (fault 15 Forms l.position)
      (or_from (is_remark l.bytes) (numbers_fit l.bytes && end_fits (says l)) plain (and_left (numbers_fit l.bytes) (end_fits (says l)) large))))))
  found f (large_end ticks is large) =
      let plain : is_remark l.bytes ≡ false =
      ⊎_elim (λ t. let other = remark_says l t in cc) (λ fails. fails) (cases_Bool (is_remark l.bytes)) in
      inr (inr (inr (inl (failed (is_remark l.bytes || (numbers_fit l.bytes && end_fits (says l))) (fault 15 Forms l.position)
      (or_from (is_remark l.bytes) (numbers_fit l.bytes && end_fits (says l)) plain
      (and_right (numbers_fit l.bytes) (end_fits (says l)) (large_end_unfit (says l) ticks is large)))))))
  found f (out_of_order fails) = inr (inr (inr (inr (inl (failed (in_order s.stage (says l)) (fault 16 SheetLayer l.position) fails)))))
  found f (no_room clock is full) =
      inr (inr (inr (inr (inr (inl (failed (has_room s.ats (says l)) (fault 17 SheetLayer l.position) (found_full s.ats (says l) clock is full)))))))
  found f (refused place d number values is code) =
      inr (inr (inr (inr (inr (inr (inl (ap (table_says s.table l.position) is ∙ ap (refused_at l.position) code)))))))

  by_12 : (f : Fault) → fault_12 l ≡ Some f → Has s l f
  by_12 f e = let r = bad_found l.position l.bytes f e in subst (Has s l) r.fault_is (BadLetter r.good r.rest r.b r.whole r.all r.bad)

  by_13 : (f : Fault) → fault_13 l ≡ Some f → Has s l f
  by_13 f e =
      let r = failing (l.ended && is_form l.bytes) (fault 13 Forms l.position) f e in
      subst (Has s l) r.1 (⊎_elim not_ended no_form (and_cases l.ended (is_form l.bytes) r.0))

  by_14 : (f : Fault) → fault_14 l ≡ Some f → Has s l f
  by_14 f e =
      let r = failing (is_some (said l.bytes)) (fault 14 Forms l.position) f e in
      subst (Has s l) r.1 (wrong_items (none_said (said l.bytes) r.0))
    where
      none_said : (o : Option Said) → is_some o ≡ false → o ≡ None
      none_said None fails = refl
      none_said (Some x) fails = cc

  by_15 : (f : Fault) → fault_15 l ≡ Some f → Has s l f
  by_15 f e =
      let r = failing (is_remark l.bytes || (numbers_fit l.bytes && end_fits (says l))) (fault 15 Forms l.position) f e in
      let both = or_parts (is_remark l.bytes) (numbers_fit l.bytes && end_fits (says l)) r.0 in
      subst (Has s l) r.1
      (⊎_elim (λ large. large_number both.0 large) (λ past. let end = end_too_large (says l) past in large_end end.ticks end.is end.large)
      (and_cases (numbers_fit l.bytes) (end_fits (says l)) both.1))

  by_16 : (f : Fault) → fault_16 s l ≡ Some f → Has s l f
  by_16 f e =
      let r = failing (in_order s.stage (says l)) (fault 16 SheetLayer l.position) f e in subst (Has s l) r.1 (out_of_order r.0)

  by_17 : (f : Fault) → fault_17 s l ≡ Some f → Has s l f
  by_17 f e =
      let r = failing (has_room s.ats (says l)) (fault 17 SheetLayer l.position) f e in
      let full = full_found s.ats (says l) r.0 in
      subst (Has s l) r.1 (no_room full.clock full.is full.full)

  by_table : (f : Fault) → fault_of_table s l ≡ Some f → Has s l f
  by_table f e =
      let r = table_found s.table l.position (says l) f e in subst (Has s l) r.fault_is (refused r.place r.duty r.number r.values r.is r.code)

  -- What the checks find, the rules say.
  pub by_rule : (f : Fault) → OneOf (checks s l) f → Has s l f
  by_rule f i =
      ⊎_elim (by_12 f) (λ i. ⊎_elim (by_13 f) (λ i. ⊎_elim (by_14 f) (λ i. ⊎_elim (by_15 f) (λ i. ⊎_elim (by_16 f) (λ i.
      ⊎_elim (by_17 f) (λ i. ⊎_elim (by_table f) (λ i. absurd i) i) i) i) i) i) i) i

  -- The layers of the checks that come later.
  table_rank : (g : Fault) → OneOf (table_faults s l) g → rank g.layer ≡ 3
  table_rank g i =
      ⊎_elim (λ e. ap (λ (h : Fault). rank h.layer) (sym (table_found s.table l.position (says l) g e).fault_is)) (λ i. absurd i) i

  unless_rank : (t : Bool) (h g : Fault) → unless t h ≡ Some g → rank h.layer ≡ rank g.layer
  unless_rank t h g e = ap (λ (x : Fault). rank x.layer) (failing t h g e).1

  unless_number : (t : Bool) (h g : Fault) → unless t h ≡ Some g → h.number ≡ g.number
  unless_number t h g e = ap (λ (x : Fault). x.number) (failing t h g e).1

  unless_layer : (t : Bool) (h g : Fault) → unless t h ≡ Some g → h.layer ≡ g.layer
  unless_layer t h g e = ap (λ (x : Fault). x.layer) (failing t h g e).1

  -- Two tests of one layer.
  same_layer : (t u : Bool) (m n : ℕ) (layer : Layer) (p : Position) (f g : Fault) → m < n → unless t (fault m layer p) ≡ Some f
      → unless u (fault n layer p) ≡ Some g → Before f g
  same_layer t u m n layer p f g less e k =
      let first = unless_number t (fault m layer p) f e in
      let second = unless_number u (fault n layer p) g k in
      inr (sym (unless_layer t (fault m layer p) f e) ∙ unless_layer u (fault n layer p) g k, omega (arith, less, first, second))

  sheet_rank : (g : Fault) → OneOf (sheet_faults s l ++ table_faults s l) g → 2 ≤ rank g.layer
  sheet_rank g i =
      ⊎_elim (λ e. let same = unless_rank (in_order s.stage (says l)) (fault 16 SheetLayer l.position) g e in omega (arith, same))
      (λ i. ⊎_elim (λ e. let same = unless_rank (has_room s.ats (says l)) (fault 17 SheetLayer l.position) g e in omega (arith, same))
      (λ i. let same = table_rank g i in omega (arith, same)) i) i

  forms_rank : (g : Fault) → OneOf (forms_faults l ++ sheet_faults s l ++ table_faults s l) g → 1 ≤ rank g.layer
  forms_rank g i =
      ⊎_elim (λ e. let same = unless_rank _ (fault 13 Forms l.position) g e in omega (arith, same))
      (λ i. ⊎_elim (λ e. let same = unless_rank _ (fault 14 Forms l.position) g e in omega (arith, same))
      (λ i. ⊎_elim (λ e. let same = unless_rank _ (fault 15 Forms l.position) g e in omega (arith, same))
      (λ i. let more = sheet_rank g i in omega (arith, more)) i) i) i

  in_forms : (t : Bool) (n : ℕ) (f g : Fault) → unless t (fault n Forms l.position) ≡ Some f → OneOf (sheet_faults s l ++ table_faults s l) g → Before f g
  in_forms t n f g e i =
      let same = unless_rank t (fault n Forms l.position) f e in
      let more = sheet_rank g i in
      inl (omega (arith, same, more))

  in_sheet : (t : Bool) (n : ℕ) (f g : Fault) → unless t (fault n SheetLayer l.position) ≡ Some f → OneOf (table_faults s l) g → Before f g
  in_sheet t n f g e i =
      let same = unless_rank t (fault n SheetLayer l.position) f e in
      let more = table_rank g i in
      inl (omega (arith, same, more))

  ordered : Ordered (checks s l)
  ordered = (
    λ f g e i.
        let same : 0 ≡ rank f.layer = ap (λ (h : Fault). rank h.layer) (bad_found l.position l.bytes f e).fault_is in
        let more = forms_rank g i in
        inl (omega (arith, same, more)),
    (
      λ f g e i. ⊎_elim (same_layer _ _ 13 14 Forms l.position f g (omega arith) e)
          (λ i. ⊎_elim (same_layer _ _ 13 15 Forms l.position f g (omega arith) e) (in_forms _ 13 f g e) i) i,
      (
        λ f g e i. ⊎_elim (same_layer _ _ 14 15 Forms l.position f g (omega arith) e) (in_forms _ 14 f g e) i,
        (
          λ f g e i. in_forms _ 15 f g e i,
          (
            λ f g e i. ⊎_elim (same_layer _ _ 16 17 SheetLayer l.position f g (omega arith) e) (in_sheet _ 16 f g e) i,
            (λ f g e i. in_sheet _ 17 f g e i, (λ f g e i. absurd i, tt)),
          ),
        ),
      ),
    ),
  )

  -- A line is judged by the fault that counts, and without one it is taken up.
  pub line_counts : (f : Fault) → line_judged s l ≡ Err f → Counts s l f
  line_counts f e =
      let first = judged_first (with_said s l (says l)) (checks s l) f ordered e in
      record { has = by_rule f first.0; others = λ g h. first.1 g (found g h) }

  pub counts_line : (f : Fault) → Counts s l f → line_judged s l ≡ Err f
  counts_line f counts =
      first_judged (with_said s l (says l)) (checks s l) f ordered (found f counts.has, λ g i. counts.others g (by_rule g i))

  pub line_without : (t : SoFar) → line_judged s l ≡ Ok t → (f : Fault) → Has s l f → ⊥
  line_without t e f h = judged_without (with_said s l (says l)) (checks s l) t e f (found f h)

  pub line_sets : (t : SoFar) → line_judged s l ≡ Ok t → t ≡ with_said s l (says l)
  line_sets t e = judged_value (with_said s l (says l)) t (checks s l) t (sym e)

  pub without_line : ((f : Fault) → Has s l f → ⊥) → line_judged s l ≡ Ok (with_said s l (says l))
  without_line none = without_judged (with_said s l (says l)) (checks s l) (λ f i. none f (by_rule f i))
