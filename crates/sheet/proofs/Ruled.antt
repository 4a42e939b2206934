-- Reading a text gives what the rules say. Both ways go by the same cases: the text is too long; a line is the first that has a fault; no
-- line says the end; an at-line is the first that is late; or none of these, and the text is a sheet.
use Rattle.std.proofs.Common.{◌≡◌, ℕ, ◌<◌, ◌≤◌, Bool, true, false, List, [], ◌∷◌, ◌++◌, length, Some, None, Ok, Err, Option, Result, sym, refl, ap, ◌∙◌, subst, ⊎_elim}
use Rattle.std.proofs.lemmas.Bool.{cases_Bool, cases_lt, le-leb, lt-leb}
use Rattle.forms.specs.Faults.{Fault, fault, judged, unless}
use Rattle.forms.specs.Lines.{Line, first_position, lines}
use Rattle.forms.specs.Sayings.{says}
use Rattle.forms.specs.declared.faults.Layer.TheVariants.{Sheet as SheetLayer}
use Rattle.forms.specs.declared.faults.Position.{Position}
use Rattle.forms.specs.declared.sayings.Said.TheVariants.{End}
use Rattle.sheet.specs.Orders.{SoFar, line_judged, lines_judged, nothing_read, with_said}
use Rattle.sheet.specs.Rules.{ByRules, Counts, FaultOf, Faultless, Saying, SheetOf, too_long as TooLong, of_line, no_end, too_late, set_by_lines}
use Rattle.sheet.specs.Sheets.{Set, finished, late, missing_line, of_lines, over, set_of, sheet_of}
use Rattle.sheet.proofs.Ended.{end_said, first_faultless, first_late, late_by_lines, late_found, late_line, late_none, later_faultless, none_late, none_within, one_more, said_end}
use Rattle.sheet.proofs.Faulty.{counts_line, line_counts, line_sets, line_without, without_line}

err_same : {X : Type 0} (f g : Fault) → (let e : Result X Fault = Err f in e) ≡ Err g → f ≡ g
err_same f g e = cc

-- The lines behind one that was judged.
abbrev go_on : List Line → Result SoFar Fault → Result SoFar Fault
go_on ls r = elim r as (λ x. Result SoFar Fault) [ Ok t ↦ lines_judged t ls | Err f ↦ Err f ]

record FaultyLine (s : SoFar) (ls : List Line) (f : Fault) : Type 0 where
  before : List Line
  line : Line
  behind : List Line
  whole : ls ≡ before ++ (line ∷ behind)
  faultless : Faultless s before
  counts : Counts (set_by_lines s before) line f

lines_faulty : (ls : List Line) (s : SoFar) (f : Fault) → lines_judged s ls ≡ Err f → FaultyLine s ls f
lines_faulty [] s f e = cc
lines_faulty (l ∷ ls) s f e = by_line (line_judged s l) refl (lines_faulty ls (with_said s l (says l)) f) e
  where
    by_line : (r : Result SoFar Fault) → line_judged s l ≡ r
        → (lines_judged (with_said s l (says l)) ls ≡ Err f → FaultyLine (with_said s l (says l)) ls f)
        → go_on ls r ≡ Err f → FaultyLine s (l ∷ ls) f
    by_line (Ok t) is later e =
        let r = later (subst (λ u. lines_judged u ls ≡ Err f) (line_sets s l t is) e) in
        record {
          before = l ∷ r.before;
          line = r.line;
          behind = r.behind;
          whole = ap (λ xs. l ∷ xs) r.whole;
          faultless = one_more s l r.before (line_without s l t is) r.faultless;
          counts = r.counts;
        }
    by_line (Err g) is later e =
        record {
          before = [];
          line = l;
          behind = ls;
          whole = refl;
          faultless = λ before m behind h none has. none_within before m behind none;
          counts = line_counts s l f (is ∙ e);
        }

lines_faultless : (ls : List Line) (s t : SoFar) → lines_judged s ls ≡ Ok t → Faultless s ls × (t ≡ set_by_lines s ls)
lines_faultless [] s t e = (λ before m behind h none has. none_within before m behind none, cc)
lines_faultless (l ∷ ls) s t e = by_line (line_judged s l) refl (lines_faultless ls (with_said s l (says l)) t) e
  where
    by_line : (r : Result SoFar Fault) → line_judged s l ≡ r
        → (lines_judged (with_said s l (says l)) ls ≡ Ok t
        → Faultless (with_said s l (says l)) ls × (t ≡ set_by_lines (with_said s l (says l)) ls))
        → go_on ls r ≡ Ok t → Faultless s (l ∷ ls) × (t ≡ set_by_lines s (l ∷ ls))
    by_line (Ok u) is later e =
        let r = later (subst (λ v. lines_judged v ls ≡ Ok t) (line_sets s l u is) e) in
        (one_more s l ls (line_without s l u is) r.0, r.1)
    by_line (Err g) is later e = cc

faultless_lines : (ls : List Line) (s : SoFar) → Faultless s ls → lines_judged s ls ≡ Ok (set_by_lines s ls)
faultless_lines [] s faultless = refl
faultless_lines (l ∷ ls) s faultless =
    ap (go_on ls) (without_line s l (first_faultless s l ls faultless))
    ∙ faultless_lines ls (with_said s l (says l)) (later_faultless s l ls faultless)

faulty_lines : (before : List Line) (s : SoFar) (l : Line) (behind : List Line) (f : Fault) → Faultless s before
    → Counts (set_by_lines s before) l f → lines_judged s (before ++ (l ∷ behind)) ≡ Err f
faulty_lines [] s l behind f faultless counts = ap (go_on behind) (counts_line s l f counts)
faulty_lines (b ∷ before) s l behind f faultless counts =
    ap (go_on (before ++ (l ∷ behind))) (without_line s b (first_faultless s b before faultless))
    ∙ faulty_lines before (with_said s b (says b)) l behind f (later_faultless s b before faultless) counts

-- The end of the text: what is left to judge where no line has a fault.
abbrev unless_late : Option Fault → SoFar → Result Set Fault
unless_late None s = Ok (set_of s)
unless_late (Some f) s = Err f

alone : (o : Option Fault) (s : SoFar) → judged (o ∷ []) (set_of s) ≡ unless_late o s
alone None s = refl
alone (Some f) s = refl

finished_ended : (missing : Position) (s : SoFar) → over s.stage ≡ true → finished missing s ≡ unless_late (late s.ticks s.ats) s
finished_ended missing s reached =
    ap (λ (t : Bool). judged (unless t (fault 16 SheetLayer missing) ∷ late s.ticks s.ats ∷ []) (set_of s)) reached
    ∙ alone (late s.ticks s.ats) s

finished_not_ended : (missing : Position) (s : SoFar) → over s.stage ≡ false → finished missing s ≡ Err (fault 16 SheetLayer missing)
finished_not_ended missing s fails =
    ap (λ (t : Bool). judged (unless t (fault 16 SheetLayer missing) ∷ late s.ticks s.ats ∷ []) (set_of s)) fails

module _ (text : List ℕ) where
  abbrev all : List Line
  all = lines first_position text

  abbrev set : SoFar
  set = set_by_lines nothing_read (lines first_position text)

  abbrev if_short : Option Fault → Result Set Fault
  if_short o =
      elim o as (λ x. Result Set Fault) [ Some f ↦ Err f | None ↦ of_lines (missing_line text) (lines_judged nothing_read (lines first_position text)) ]

  read_long : 32768 < length text → sheet_of text ≡ Err (fault 17 SheetLayer first_position)
  read_long h = ap (λ (t : Bool). if_short (unless t (fault 17 SheetLayer first_position))) (lt-leb (length text) 32768 h)

  read_short : length text ≤ 32768 → sheet_of text ≡ of_lines (missing_line text) (lines_judged nothing_read all)
  read_short h = ap (λ (t : Bool). if_short (unless t (fault 17 SheetLayer first_position))) (le-leb (length text) 32768 h)

  -- Where no line has a fault, the end of the text decides.
  read_faultless : length text ≤ 32768 → Faultless nothing_read all → sheet_of text ≡ finished (missing_line text) set
  read_faultless short faultless = read_short short ∙ ap (of_lines (missing_line text)) (faultless_lines all nothing_read faultless)

  late_of : (ticks : ℕ) → set.ticks ≡ ticks → late set.ticks set.ats ≡ late_line ticks all
  late_of ticks same = late_by_lines set.ticks all ∙ ap (λ n. late_line n all) same

  no_end_said : Faultless nothing_read all → over set.stage ≡ false → (ticks : ℕ) → Saying all (End ticks) → ⊥
  no_end_said faultless fails ticks said = let reached = (said_end all nothing_read ticks faultless said).reached in cc

  end_is_said : Faultless nothing_read all → over set.stage ≡ true → Saying all (End set.ticks)
  end_is_said faultless reached = end_said all nothing_read faultless refl reached

  -- What the end of the text gives.
  late_fault : (f : Fault) (o : Option Fault) → length text ≤ 32768 → Faultless nothing_read all → over set.stage ≡ true
      → late_line set.ticks all ≡ o → unless_late o set ≡ Err f → FaultOf text f
  late_fault f None short faultless reached is e = cc
  late_fault f (Some g) short faultless reached is e =
      let r = late_found set.ticks all f (is ∙ ap Some (err_same g f e)) in
      subst (FaultOf text) r.fault_is (too_late set.ticks r.line short faultless (end_is_said faultless reached) r.first)

  late_sheet : (s : Set) (o : Option Fault) → length text ≤ 32768 → Faultless nothing_read all → over set.stage ≡ true
      → late_line set.ticks all ≡ o → unless_late o set ≡ Ok s → SheetOf text s
  late_sheet s None short faultless reached is e =
      let same : set_of set ≡ s = cc in
      subst (SheetOf text) same
      (record {
        short = short;
        faultless = faultless;
        ended = end_is_said faultless reached;
        on_time = none_late set.ticks all is;
        sets = refl;
      })
  late_sheet s (Some g) short faultless reached is e = cc

  end_fault : (f : Fault) → length text ≤ 32768 → Faultless nothing_read all → finished (missing_line text) set ≡ Err f → FaultOf text f
  end_fault f short faultless e =
      ⊎_elim
      (λ reached.
      late_fault f (late_line set.ticks all) short faultless reached refl
      (ap (λ o. unless_late o set) (sym (late_of set.ticks refl)) ∙ sym (finished_ended (missing_line text) set reached) ∙ e))
      (λ fails.
      subst (FaultOf text) (err_same (fault 16 SheetLayer (missing_line text)) f (sym (finished_not_ended (missing_line text) set fails) ∙ e))
      (no_end short faultless (no_end_said faultless fails)))
      (cases_Bool (over set.stage))

  end_sheet : (s : Set) → length text ≤ 32768 → Faultless nothing_read all → finished (missing_line text) set ≡ Ok s → SheetOf text s
  end_sheet s short faultless e =
      ⊎_elim
      (λ reached.
      late_sheet s (late_line set.ticks all) short faultless reached refl
      (ap (λ o. unless_late o set) (sym (late_of set.ticks refl)) ∙ sym (finished_ended (missing_line text) set reached) ∙ e))
      (λ fails. let other = sym (finished_not_ended (missing_line text) set fails) ∙ e in cc)
      (cases_Bool (over set.stage))

  lines_fault : (f : Fault) (r : Result SoFar Fault) → length text ≤ 32768 → lines_judged nothing_read all ≡ r
      → of_lines (missing_line text) r ≡ Err f → FaultOf text f
  lines_fault f (Ok s) short is e =
      let r = lines_faultless all nothing_read s is in
      end_fault f short r.0 (subst (λ t. finished (missing_line text) t ≡ Err f) r.1 e)
  lines_fault f (Err g) short is e =
      let r = lines_faulty all nothing_read f (is ∙ ap Err (err_same g f e)) in
      of_line r.before r.line r.behind f short r.whole r.faultless r.counts

  lines_sheet : (s : Set) (r : Result SoFar Fault) → length text ≤ 32768 → lines_judged nothing_read all ≡ r
      → of_lines (missing_line text) r ≡ Ok s → SheetOf text s
  lines_sheet s (Ok t) short is e =
      let r = lines_faultless all nothing_read t is in
      end_sheet s short r.0 (subst (λ u. finished (missing_line text) u ≡ Ok s) r.1 e)
  lines_sheet s (Err g) short is e = cc

  read_fault : (f : Fault) → sheet_of text ≡ Err f → FaultOf text f
  read_fault f e =
      ⊎_elim
      (λ long. subst (FaultOf text) (err_same (fault 17 SheetLayer first_position) f (sym (read_long long) ∙ e)) (TooLong long))
      (λ short. lines_fault f (lines_judged nothing_read all) short refl (sym (read_short short) ∙ e))
      (cases_lt 32768 (length text))

  read_sheet : (s : Set) → sheet_of text ≡ Ok s → SheetOf text s
  read_sheet s e =
      ⊎_elim
      (λ long. let other = sym (read_long long) ∙ e in cc)
      (λ short. lines_sheet s (lines_judged nothing_read all) short refl (sym (read_short short) ∙ e))
      (cases_lt 32768 (length text))

  fault_read : (f : Fault) → FaultOf text f → sheet_of text ≡ Err f
  fault_read f (TooLong long) = read_long long
  fault_read f (of_line before l behind g short split faultless counts) =
      read_short short
      ∙ ap (of_lines (missing_line text))
      (ap (lines_judged nothing_read) split ∙ faulty_lines before nothing_read l behind g faultless counts)
  fault_read f (no_end short faultless none) =
      let fails : over set.stage ≡ false =
      ⊎_elim (λ reached. absurd (none set.ticks (end_is_said faultless reached))) (λ fails. fails) (cases_Bool (over set.stage)) in
      read_faultless short faultless ∙ finished_not_ended (missing_line text) set fails
  fault_read f (too_late ticks l short faultless ended first) =
      let end = said_end all nothing_read ticks faultless ended in
      read_faultless short faultless ∙ finished_ended (missing_line text) set end.reached
      ∙ ap (λ o. unless_late o set) (late_of ticks end.with_ticks ∙ first_late ticks all l first)

  sheet_read : (s : Set) → SheetOf text s → sheet_of text ≡ Ok s
  sheet_read s r =
      let end = said_end all nothing_read s.ticks r.faultless r.ended in
      read_faultless r.short r.faultless ∙ finished_ended (missing_line text) set end.reached
      ∙ ap (λ o. unless_late o set) (late_of s.ticks end.with_ticks ∙ late_none s.ticks all r.on_time)
      ∙ ap Ok (sym r.sets)

pub by_rules : ByRules
by_rules =
    record {
      faults = λ text f. (read_fault text f, fault_read text f);
      sheets = λ text s. (read_sheet text s, sheet_read text s);
    }
