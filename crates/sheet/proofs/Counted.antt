-- How many lines a text has.
use Rattle.std.proofs.Common.{ℕ, ◌+◌, ◌≤◌, eqb, List, [], ◌∷◌, length, ap, ⊎_elim, arith}
use Rattle.std.proofs.lemmas.Bool.{cases_Bool}
use Rattle.std.proofs.lemmas.Iterator.{YieldsList}
use Rattle.std.proofs.lemmas.Iterator.Consumers.{YieldsList-from_shown}
use Rattle.forms.specs.Lines.{HandsOut, Line, begun_by, line_of, lines, lines_left, next_byte, next_line}
use Rattle.forms.specs.declared.faults.Position.{Position}
use Rattle.forms.specs.declared.lines.Reader.{Reader}

begun_length : (b : ℕ) (p : Position) (ls : List Line) (n : ℕ) → length ls ≤ n → length (begun_by b p ls) ≤ n + 1
begun_length b p [] n few = omega arith
begun_length b p (l ∷ ls) n few = omega arith

-- No more lines than bytes.
pub lines_within : (p : Position) (text : List ℕ) → length (lines p text) ≤ length text
lines_within p [] = omega arith
lines_within p (b ∷ bs) =
    ⊎_elim
    (λ ends. rw ends (let rest = lines_within (next_line p) bs in omega arith))
    (λ goes_on. rw goes_on (let begun = begun_length b p (lines (next_byte p) bs) (length bs) (lines_within (next_byte p) bs) in omega arith))
    (cases_Bool (eqb b 10))

-- A reader hands out the lines that it has left.
pub hands_out_lines : (r : Reader) → YieldsList HandsOut line_of r (lines_left r)
hands_out_lines r = YieldsList-from_shown HandsOut line_of lines_left (λ s t handed. ap length handed.hands.0) (λ s x t handed. handed.hands) r
