-- Which fault of a text counts, and which texts are sheets, as rules: each fault is said by itself, and then which of them counts.
-- The law says that reading a text gives exactly what the rules say.
use Rattle.std.specs.Prelude.{◌≡◌, ℕ, ◌<◌, ◌≤◌, true, false, ◌⊎◌, ◌↔◌, List, [], ◌∷◌, ◌++◌, length, None, Ok, Err}
use Rattle.model.specs.Table.{add_refusal}
use Rattle.model.specs.declared.duties.Duty.{Duty}
use Rattle.forms.specs.Faults.{Fault, fault}
use Rattle.forms.specs.Forms.{is_form, is_remark}
use Rattle.forms.specs.Grammar.{all_of}
use Rattle.forms.specs.Items.{further, numbers_fit}
use Rattle.forms.specs.Lines.{Line, allowed, first_position, lines}
use Rattle.forms.specs.Sayings.{said, says}
use Rattle.forms.specs.declared.faults.Layer.{Layer}
use Rattle.forms.specs.declared.faults.Layer.TheVariants.{Letters, Forms, Sheet as SheetLayer, Table}
use Rattle.forms.specs.declared.sayings.Said.{Said}
use Rattle.forms.specs.declared.sayings.Said.TheVariants.{Duty as AddDuty, At, End}
use Rattle.sheet.specs.Orders.{SoFar, in_order, nothing_read, with_said}
use Rattle.sheet.specs.Sheets.{Set, missing_line, set_of, sheet_of}
use Rattle.sheet.specs.Reports.{table_fault}

-- The layers, in the order in which they count.
abbrev pub rank : Layer → ℕ
rank Letters = 0
rank Forms = 1
rank SheetLayer = 2
rank Table = 3

-- A fault counts before another: its layer comes before, or in the same layer its number is smaller.
abbrev pub Before : Fault → Fault → Type 0
Before f g = (rank f.layer < rank g.layer) ⊎ ((f.layer ≡ g.layer) × (f.number < g.number))

-- The faults of a line, where the lines before it have set this: each by its own rule, whatever other faults the line has. The
-- rules of 14 and 15 hold for bytes that are no form as well; there 13 counts before them.
pub data Has (s : SoFar) (l : Line) : Fault → Type 0 where
  bad_letter : (good rest : List ℕ) (b : ℕ) → l.bytes ≡ good ++ (b ∷ rest) → all_of allowed good ≡ true → allowed b ≡ false
      → Has s l (fault 12 Letters (further l.position (length good)))
  not_ended : l.ended ≡ false → Has s l (fault 13 Forms l.position)
  no_form : is_form l.bytes ≡ false → Has s l (fault 13 Forms l.position)
  wrong_items : said l.bytes ≡ None → Has s l (fault 14 Forms l.position)
  large_number : is_remark l.bytes ≡ false → numbers_fit l.bytes ≡ false → Has s l (fault 15 Forms l.position)
  large_end : (ticks : ℕ) → says l ≡ End ticks → 10000 < ticks → Has s l (fault 15 Forms l.position)
  out_of_order : in_order s.stage (says l) ≡ false → Has s l (fault 16 SheetLayer l.position)
  no_room : (clock : ℕ) → says l ≡ At clock → 256 ≤ length s.ats → Has s l (fault 17 SheetLayer l.position)
  refused : (place : ℕ) (d : Duty) (number : ℕ) (values : List ℕ) → says l ≡ AddDuty place d
      → add_refusal s.table place d ≡ number ∷ values → Has s l (table_fault l.position (number ∷ values))

-- The fault of a line that counts: the line has it, and it counts before any other that the line has.
pub record Counts (s : SoFar) (l : Line) (f : Fault) : Type 0 where
  pub has : Has s l f
  pub others : (g : Fault) → Has s l g → (g ≡ f) ⊎ Before f g

-- What lines set, one behind the other.
abbrev pub set_by_lines : SoFar → List Line → SoFar
set_by_lines s [] = s
set_by_lines s (l ∷ ls) = set_by_lines (with_said s l (says l)) ls

-- No line has a fault, each where the lines before it have set what they say.
abbrev pub Faultless : SoFar → List Line → Type 0
Faultless s ls =
    (before : List Line) (l : Line) (behind : List Line) (f : Fault) → ls ≡ before ++ (l ∷ behind) → Has (set_by_lines s before) l f → ⊥

-- One of the lines says this, and there are these before it and these behind it.
pub record Saying (ls : List Line) (what : Said) : Type 0 where
  pub before : List Line
  pub line : Line
  pub behind : List Line
  pub whole : ls ≡ before ++ (line ∷ behind)
  pub is_said : says line ≡ what

-- The first at-line whose clock is not before the end.
pub record FirstLate (ls : List Line) (ticks : ℕ) (l : Line) : Type 0 where
  pub before : List Line
  pub behind : List Line
  pub whole : ls ≡ before ++ (l ∷ behind)
  pub clock : ℕ
  pub is_at : says l ≡ At clock
  pub late : ticks ≤ clock
  pub earlier : (c : ℕ) → Saying before (At c) → c < ticks

-- The fault of a text that counts. Too long: 17, at line 1 and byte 0, whatever else the text holds. Else that of its first faulty
-- line. Where no line has one: a missing end line, or else the first at-line that comes too late.
pub data FaultOf (text : List ℕ) : Fault → Type 0 where
  too_long : 32768 < length text → FaultOf text (fault 17 SheetLayer first_position)
  of_line : (before : List Line) (l : Line) (behind : List Line) (f : Fault) → length text ≤ 32768
      → lines first_position text ≡ before ++ (l ∷ behind) → Faultless nothing_read before
      → Counts (set_by_lines nothing_read before) l f → FaultOf text f
  no_end : length text ≤ 32768 → Faultless nothing_read (lines first_position text)
      → ((ticks : ℕ) → Saying (lines first_position text) (End ticks) → ⊥) → FaultOf text (fault 16 SheetLayer (missing_line text))
  too_late : (ticks : ℕ) (l : Line) → length text ≤ 32768 → Faultless nothing_read (lines first_position text)
      → Saying (lines first_position text) (End ticks) → FirstLate (lines first_position text) ticks l
      → FaultOf text (fault 16 SheetLayer l.position)

-- The sheet that a text is: none of those faults is there, and its lines set this.
pub record SheetOf (text : List ℕ) (set : Set) : Type 0 where
  pub short : length text ≤ 32768
  pub faultless : Faultless nothing_read (lines first_position text)
  pub ended : Saying (lines first_position text) (End set.ticks)
  pub on_time : (clock : ℕ) → Saying (lines first_position text) (At clock) → clock < set.ticks
  pub sets : set ≡ set_of (set_by_lines nothing_read (lines first_position text))

-- Reading gives a fault exactly if it counts, and a sheet exactly if the text is that sheet. So every text is a sheet or has a fault
-- that counts, and never more than one of these.
pub record ByRules : Type 0 where
  pub faults : (text : List ℕ) (f : Fault) → (sheet_of text ≡ Err f) ↔ FaultOf text f
  pub sheets : (text : List ℕ) (set : Set) → (sheet_of text ≡ Ok set) ↔ SheetOf text set
