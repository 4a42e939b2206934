-- A line that says something, where it stands in the sheet: what each layer above the forms makes of it.
use Rattle.std.proofs.Common.{◌≡◌, true, false, List, [], ◌∷◌, ◌++◌, Ok, Err, Option, sym, ap, ◌∙◌}
use Rattle.forms.specs.Faults.{Fault, fault, judged, unless}
use Rattle.forms.specs.Lines.{Line}
use Rattle.sheet.specs.Orders.{SoFar, fault_16, fault_17, has_room, in_order, line_judged, order_judged, said_judged, sheet_faults, table_faults, with_said}
use Rattle.forms.specs.Sayings.{form_judged, forms_faults, letters_faults, says}
use Rattle.forms.specs.declared.faults.Layer.TheVariants.{Sheet as SheetLayer}
use Rattle.forms.specs.declared.sayings.Said.{Said}
use Rattle.sheet.proofs.Judgements.{judged_after, judged_rest, judged_value, none_first}
use Rattle.sheet.proofs.Kept.{unless_none}

-- The faults of order of a line that says this.
abbrev order_faults : SoFar → Line → Said → List (Option Fault)
order_faults s l said =
    unless (in_order s.stage said) (fault 16 SheetLayer l.position)
    ∷ unless (has_room s.ats said) (fault 17 SheetLayer l.position) ∷ []

module _ (s : SoFar) (l : Line) (said : Said) where
  -- A line with a good form is judged by its order.
  by_order : Ok said ≡ form_judged l → order_judged s l ≡ judged (order_faults s l said) said
  by_order formed =
      judged_after (says l) (says l) (letters_faults l ++ forms_faults l) (sheet_faults s l) said formed
      ∙ ap (λ (x : Said). judged (order_faults s l x) x) (sym (judged_value (says l) said (letters_faults l ++ forms_faults l) said formed))

  pub out_of_order : Ok said ≡ form_judged l → false ≡ in_order s.stage said
      → Err (fault 16 SheetLayer l.position) ≡ order_judged s l
  out_of_order formed fails = sym (by_order formed ∙ rw (← fails))

  pub no_room : Ok said ≡ form_judged l → true ≡ in_order s.stage said → false ≡ has_room s.ats said
      → Err (fault 17 SheetLayer l.position) ≡ order_judged s l
  no_room formed next full = sym (by_order formed ∙ rw (← next, ← full))

  pub in_order_with_room : Ok said ≡ form_judged l → true ≡ in_order s.stage said → true ≡ has_room s.ats said
      → Ok said ≡ order_judged s l
  in_order_with_room formed next room = sym (by_order formed ∙ rw (← next, ← room))

  -- There is room for a line that may come where it stands.
  pub room_where_ordered : Ok said ≡ order_judged s l → has_room s.ats said ≡ true
  room_where_ordered ordered =
      let last =
      judged_rest (says l) (letters_faults l ++ forms_faults l ++ (fault_16 s l ∷ [])) (fault_17 s l ∷ []) said ordered in
      ap (has_room s.ats) (judged_value (says l) said (letters_faults l ++ forms_faults l ++ sheet_faults s l) said ordered)
      ∙ unless_none (has_room s.ats (says l)) (fault 17 SheetLayer l.position) (none_first [] (fault_17 s l) (says l) said last)

  -- Such a line is judged by the table.
  pub by_table : Ok said ≡ order_judged s l → line_judged s l ≡ said_judged s l said
  by_table ordered =
      judged_after (says l) (with_said s l (says l)) (letters_faults l ++ forms_faults l ++ sheet_faults s l) (table_faults s l) said ordered
      ∙ ap (λ (x : Said). said_judged s l x)
      (sym (judged_value (says l) said (letters_faults l ++ forms_faults l ++ sheet_faults s l) said ordered))
