-- How large a sheet that is read can be. By these numbers the memory of a run can be taken before its text is known.
use Rattle.std.specs.Prelude.{◌≡◌, ℕ, ◌≤◌, List, length, Ok}
use Rattle.sheet.specs.Sheets.{Set, sheet_of}
use Rattle.transcript.specs.Scripts.{script_of}

-- The script of every sheet that is read has at most 42,768 calls: those of its at-lines and its ticks. A text has at most 32,768
-- bytes, each call has bytes of its own, and no at-line comes into the script twice; and there are at most 10,000 ticks.
abbrev pub ScriptsFit : Type 0
ScriptsFit = (text : List ℕ) (s : Set) → sheet_of text ≡ Ok s → length (script_of s.ats s.ticks) ≤ 42768

-- At most 256 at-lines, since one more is fault 17; at most 10,000 ticks, since a later end is fault 15; and at most 16 rows, since
-- the table refuses one more.
pub record Fits (s : Set) : Type 0 where
  pub ats : length s.ats ≤ 256
  pub ticks : s.ticks ≤ 10000
  pub rows : length s.table ≤ 16

-- Every sheet that is read is such.
abbrev pub SheetsFit : Type 0
SheetsFit = (text : List ℕ) (s : Set) → sheet_of text ≡ Ok s → Fits s
