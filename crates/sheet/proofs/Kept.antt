-- What every line of a sheet keeps, all of them keep; and what is known of a line, and of a text, that was read without a fault.
use Rattle.std.proofs.Common.{◌≡◌, ℕ, ◌≤◌, Bool, true, false, leb, List, [], ◌∷◌, ◌++◌, length, Some, None, Ok, Err, Option, Result, sym, refl, subst}
use Rattle.std.specs.List.{AllByRecursion}
use Rattle.std.proofs.lemmas.Bool.{leb-true}
use Rattle.forms.specs.Faults.{Fault, judged, unless}
use Rattle.forms.specs.Lines.{Line, first_position, lines}
use Rattle.forms.specs.Sayings.{fault_15, forms_faults, letters_faults, says}
use Rattle.forms.specs.declared.faults.Position.{Position}
use Rattle.sheet.specs.Orders.{SoFar, fault_17, line_judged, lines_judged, nothing_read, sheet_faults, table_faults, with_said}
use Rattle.sheet.specs.Sheets.{Set, late, missing_line, of_lines, over, sheet_of, too_long}
use Rattle.sheet.proofs.Judgements.{judged_value}

module _ (P : List Line → SoFar → Type 0) (step : (s u : SoFar) (l : Line) (ls : List Line) → line_judged s l ≡ Ok u → P (l ∷ ls) s → P ls u) where
  one_line : (s t : SoFar) (l : Line) (ls : List Line) (r : Result SoFar Fault) → line_judged s l ≡ r → P (l ∷ ls) s
      → ((u : SoFar) → P ls u → lines_judged u ls ≡ Ok t → P [] t)
      → elim r as (λ x. Result SoFar Fault) [ Ok u ↦ lines_judged u ls | Err f ↦ Err f ] ≡ Ok t
      → P [] t
  one_line s t l ls (Ok u) is kept next e = next u (step s u l ls is kept) e
  one_line s t l ls (Err f) is kept next e = cc

  pub lines_keep : (ls : List Line) (s t : SoFar) → P ls s → lines_judged s ls ≡ Ok t → P [] t
  lines_keep [] s t kept e = let same : s ≡ t = cc in subst (P []) same kept
  lines_keep (l ∷ ls) s t kept e = one_line s t l ls (line_judged s l) refl kept (λ u now e-u. lines_keep ls u t now e-u) e

-- A test that gives no fault has passed.
pub unless_none : (t : Bool) (f : Fault) → unless t f ≡ None → t ≡ true
unless_none true f e = refl
unless_none false f e = cc

-- Where the value stands, there is no fault.
no_faults : {X : Type 0} (fs : List (Option Fault)) (x z : X) → judged fs x ≡ Ok z → AllByRecursion (λ (o : Option Fault). o ≡ None) fs
no_faults [] x z e = tt
no_faults (None ∷ fs) x z e = (refl, no_faults fs x z e)
no_faults (Some f ∷ fs) x z e = cc

-- A line that was taken up has no fault, and adds what it says.
pub record TakenUp (s : SoFar) (l : Line) (u : SoFar) : Type 0 where
  pub adds : u ≡ with_said s l (says l)
  pub numbers : fault_15 l ≡ None
  pub room : fault_17 s l ≡ None

pub taken_up : (s u : SoFar) (l : Line) → line_judged s l ≡ Ok u → TakenUp s l u
taken_up s u l e =
    let faults = letters_faults l ++ forms_faults l ++ sheet_faults s l ++ table_faults s l in
    let none = no_faults faults (with_said s l (says l)) u e in
    record {
      adds = judged_value (with_said s l (says l)) u faults u (sym e);
      numbers = none.1.1.1.0;
      room = none.1.1.1.1.1.0;
    }

-- A text that is a sheet is short, and its lines have set the sheet.
pub record IsRead (text : List ℕ) (set : Set) : Type 0 where
  pub short : length text ≤ 32768
  pub last : SoFar
  pub lines : lines_judged nothing_read (lines first_position text) ≡ Ok last
  pub is : set ≡ record { table = last.table; queue = last.queue; ats = last.ats; ticks = last.ticks }
  pub in_time : late last.ticks last.ats ≡ None

read_lines : (text : List ℕ) (set : Set) (missing : Position) (r : Result SoFar Fault) → length text ≤ 32768
    → lines_judged nothing_read (lines first_position text) ≡ r → of_lines missing r ≡ Ok set → IsRead text set
read_lines text set missing (Ok s) short judged e =
    let made : Set = record { table = s.table; queue = s.queue; ats = s.ats; ticks = s.ticks } in
    let faults = unless (over s.stage) _ ∷ late s.ticks s.ats ∷ [] in
    record {
      short = short;
      last = s;
      lines = judged;
      is = judged_value made set faults set (sym e);
      in_time = (no_faults faults made set e).1.0;
    }
read_lines text set missing (Err f) short judged e = cc

read_short : (text : List ℕ) (set : Set) (o : Option Fault) (r : Result Set Fault) → too_long text ≡ o
    → (length text ≤ 32768 → r ≡ Ok set → IsRead text set)
    → elim o as (λ x. Result Set Fault) [ Some f ↦ Err f | None ↦ r ] ≡ Ok set → IsRead text set
read_short text set (Some f) r long read e = cc
read_short text set None r short read e = read (leb-true _ _ (unless_none (leb (length text) 32768) _ short)) e

pub text_is_read : (text : List ℕ) (set : Set) → sheet_of text ≡ Ok set → IsRead text set
text_is_read text set e =
    let judged = lines_judged nothing_read (lines first_position text) in
    read_short text set (too_long text) (of_lines (missing_line text) judged) refl
    (λ short e-lines. read_lines text set (missing_line text) judged short refl e-lines) e
