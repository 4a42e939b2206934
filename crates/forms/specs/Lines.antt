-- The lines of a text, and the bytes that they may hold.
use Rattle.std.specs.Prelude.{◌≡◌, ℕ, suc, ◌+◌, ◌≤◌, Bool, true, false, cond, ◌&&◌, List, [], ◌∷◌, length, drop, IfSome, Some, None, Option, ◌==◌, nat_le}
use Rattle.std.specs.Iterator.{YieldsFirstBy}
use Rattle.forms.specs.Faults.{Fault, fault}
use Rattle.forms.specs.declared.faults.Layer.TheVariants.{Letters}
use Rattle.forms.specs.declared.faults.Position.{Position}
use Rattle.forms.specs.declared.lines.Line.{Line as LinePart}
use Rattle.forms.specs.declared.lines.Reader.{Reader}

-- A line: its bytes without the 10 that ends it, the position of the first of them, and whether that 10 is there.
pub record Line : Type 0 where
  pub bytes : List ℕ
  pub position : Position
  pub ended : Bool

-- The line that a part of a text stands for.
abbrev pub line_of : LinePart → Line
line_of l = record { bytes = l.part.bytes.now; position = l.part.position; ended = l.ended }

-- The positions of the next byte of the same line, and of the first byte of the next line.
abbrev pub next_byte : Position → Position
next_byte p = record { line = p.line; byte = p.byte + 1 }

abbrev pub next_line : Position → Position
next_line p = record { line = p.line + 1; byte = p.byte + 1 }

-- One byte more at the front of the first line, which then begins at that byte's position.
abbrev pub begun_by : ℕ → Position → List Line → List Line
begun_by b p [] = record { bytes = b ∷ []; position = p; ended = false } ∷ []
begun_by b p (l ∷ ls) = record { bytes = b ∷ l.bytes; position = p; ended = l.ended } ∷ ls

-- The lines of a text that begins at a position. A 10 ends a line; any other byte belongs to the line that the bytes
-- after it begin with.
abbrev pub lines : Position → List ℕ → List Line
lines p [] = []
lines p (b ∷ bs) =
    cond (b == 10)
    (record { bytes = []; position = p; ended = true } ∷ lines (next_line p) bs)
    (begun_by b p (lines (next_byte p) bs))

-- The length of the first line: how many bytes come before the first 10.
abbrev pub line_length : List ℕ → ℕ
line_length [] = 0
line_length (b ∷ bs) = cond (b == 10) 0 (suc (line_length bs))

-- The position of a text's first byte.
abbrev pub first_position : Position
first_position = record { line = 1; byte = 0 }

-- The lines that a reader has still to hand out.
abbrev pub lines_left : Reader → List Line
lines_left r = lines r.position (drop r.position.byte r.text.now)

-- A line lies within a text.
abbrev pub LiesWithin : List ℕ → LinePart → Type 0
LiesWithin text l = l.part.position.byte + length l.part.bytes.now ≤ length text

-- What a reader hands out, and where it then stands.
pub record HandsOut (before : Reader) (r : Option LinePart) (after : Reader) : Type 0 where
  pub hands : YieldsFirstBy line_of lines_left before r after
  pub counts : after.position.line + length (lines_left after) ≡ before.position.line + length (lines_left before)
  pub lies : IfSome r (LiesWithin before.text.now)
  pub keeps : after.text.now ≡ before.text.now

-- The bytes that a line may hold.
abbrev pub allowed : ℕ → Bool
allowed b = nat_le 32 b && nat_le b 126

-- 12, at the first byte that is not allowed.
abbrev pub bad_letter : Position → List ℕ → Option Fault
bad_letter p [] = None
bad_letter p (b ∷ bs) = cond (allowed b) (bad_letter (next_byte p) bs) (Some (fault 12 Letters p))
