-- What holds of the at-lines of every sheet that is read.
use Rattle.std.specs.Prelude.{◌≡◌, ℕ, ◌+◌, ◌<◌, List, length, take, drop, Ok}
use Rattle.std.specs.List.{AllByRecursion}
use Rattle.sheet.specs.Ats.{AtLine, call_items, calls_at}
use Rattle.sheet.specs.Sheets.{Set, sheet_of}

-- An at-line stands in the text at its position, has at least one call, and each item behind its clock is one.
pub record CallsStand (text : List ℕ) (a : AtLine) : Type 0 where
  pub stands : drop a.position.byte (take (a.position.byte + length a.bytes) text) ≡ a.bytes
  pub some : 0 < length (calls_at a)
  pub every : length (calls_at a) ≡ length (call_items a)

-- The calls of each at-line stand in the text, and its clock comes before the end.
pub record CallsBeforeEnd (text : List ℕ) (s : Set) : Type 0 where
  pub called : AllByRecursion (CallsStand text) s.ats
  pub before_end : AllByRecursion (λ (a : AtLine). a.clock < s.ticks) s.ats

-- Every sheet is such that they do.
abbrev pub SheetsHaveCalls : Type 0
SheetsHaveCalls = (text : List ℕ) (s : Set) → sheet_of text ≡ Ok s → CallsBeforeEnd text s
