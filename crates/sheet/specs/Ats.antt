-- At-lines, and their calls.
use Rattle.std.specs.Prelude.{ℕ, List, [], ◌∷◌, length, take, drop, Some, None}
use Rattle.model.specs.declared.calls.Call.{Call}
use Rattle.forms.specs.Items.{inside, items, items_left}
use Rattle.forms.specs.Sayings.{call}
use Rattle.forms.specs.declared.faults.Position.{Position}
use Rattle.sheet.specs.declared.ats.At.{At}
use Rattle.sheet.specs.declared.ats.AtSpan.{AtSpan}
use Rattle.sheet.specs.declared.ats.Calls.{Calls}

-- An at-line: its clock, the position of its first byte, and its bytes.
pub record AtLine : Type 0 where
  pub clock : ℕ
  pub position : Position
  pub bytes : List ℕ

-- The at-line that a part of a text stands for.
abbrev pub at_of : At → AtLine
at_of a = record { clock = a.clock; position = a.part.position; bytes = a.part.bytes.now }

-- Where an at-line stands: its clock, the position of its first byte, and how many bytes it has.
abbrev pub span : AtLine → AtSpan
span a = record { clock = a.clock; position = a.position; length = length a.bytes }

-- The at-line that a text has there: its bytes are those that lie in the text, and none where the text ends before.
abbrev pub in_text : List ℕ → AtSpan → AtLine
in_text text s = record { clock = s.clock; position = s.position; bytes = take s.length (drop s.position.byte text) }

-- The calls that items are, up to the first that is none.
abbrev pub leading_calls : List (List ℕ) → List Call
leading_calls [] = []
leading_calls (i ∷ is) = elim (call i) [ None ↦ [] | Some c ↦ c ∷ leading_calls is ]

-- What stands behind the first item.
abbrev pub behind_first : List (List ℕ) → List (List ℕ)
behind_first [] = []
behind_first (i ∷ is) = is

-- The items of an at-line behind its word and its clock.
abbrev pub call_items : AtLine → List (List ℕ)
call_items a = behind_first (behind_first (items 0 (inside a.bytes)))

-- The calls of an at-line: up to its first item that is none.
abbrev pub calls_at : AtLine → List Call
calls_at a = leading_calls (call_items a)

-- The calls that are still to be handed out.
abbrev pub calls_left : Calls → List Call
calls_left r = leading_calls (items_left r.items)
