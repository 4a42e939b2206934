-- A text that is written line by line: what is written, and what is still to be written, is all of it.
use Rattle.std.proofs.Common.{◌≡◌, ℕ, ◌+◌, ◌<◌, ◌≤◌, List, ◌++◌, length, get_or, drop, Some, Option, unwrap_or, sym, ap, ◌∙◌, add-one, arith}
use Rattle.std.proofs.lemmas.List.{append_assoc, append-nil, at_drop_all, at_drop_more}
use Rattle.dispatcher.proofs.Scripted.{no_entry}
use Rattle.dispatcher.specs.Scripts.{trace_of}
use Rattle.dispatcher.specs.declared.entries.Entry.{Entry}
use Rattle.model.specs.Runs.{anyone, of_tick, total}
use Rattle.model.specs.Table.{response}
use Rattle.model.specs.declared.calls.Answer.{Answer}
use Rattle.model.specs.declared.calls.Answer.TheVariants.{Ticked}
use Rattle.model.specs.declared.calls.Call.{Call}
use Rattle.model.specs.declared.duties.Duty.{Duty}
use Rattle.transcript.specs.Lines.{duty_line, event_line}
use Rattle.transcript.specs.Renderings.{duty_lines, event_lines}

-- A part is added that was first of what was still to come.
pub part_more : {X : Type 0} (before part after rest whole : List X)
    → before ++ (part ++ rest) ≡ whole → after ≡ before ++ part → after ++ rest ≡ whole
part_more {X} before part after rest whole all added =
    ap (λ (xs : List X). xs ++ rest) added ∙ append_assoc before part rest ∙ all

-- One row more.
pub duty_more : {before after : List ℕ} (table : List Duty) (row w : ℕ) (start : List ℕ)
    → response table row ≡ Some w
    → before ≡ start ++ duty_lines table row
    → after ≡ before ++ duty_line row w
    → after ≡ start ++ duty_lines table (row + 1)
duty_more table row w start responds so_far wrote =
    wrote
    ∙ ap (λ (bs : List ℕ). bs ++ duty_line row w) so_far
    ∙ append_assoc start (duty_lines table row) (duty_line row w)
    ∙ ap (λ (o : Option ℕ). start ++ (duty_lines table row ++ duty_line row (unwrap_or o 0))) (sym responds)
    ∙ ap (λ (n : ℕ). start ++ duty_lines table n) (sym (add-one row))

-- A call moves the clock by at most one.
pub at_most_one : (a : Answer) → of_tick anyone a ≤ 1
at_most_one (Ticked slack who) = omega arith
at_most_one answer = omega arith

module _ (script : List Entry) (i : ℕ) where
  -- What happens from an entry on, and behind the last.
  pub events_more : (clock : ℕ) → i < length script
      → event_lines clock (trace_of (drop i script))
      ≡ event_line clock (get_or script i no_entry).call (get_or script i no_entry).answer
      ++ event_lines (clock + of_tick anyone (get_or script i no_entry).answer) (trace_of (drop (i + 1) script))
  events_more clock short = at_drop_more (λ (es : List Entry). event_lines clock (trace_of es)) script i no_entry short

  pub events_all : (clock : ℕ) (before whole : List ℕ) → length script ≤ i
      → before ++ event_lines clock (trace_of (drop i script)) ≡ whole → before ≡ whole
  events_all clock before whole long all =
      sym (append-nil before)
      ∙ ap (λ (bs : List ℕ). before ++ bs) (sym (at_drop_all (λ (es : List Entry). event_lines clock (trace_of es)) script i long))
      ∙ all

  -- A total from an entry on, and behind the last.
  pub total_more : (f : Call → Answer → ℕ) → i < length script
      → total f (trace_of (drop i script))
      ≡ f (get_or script i no_entry).call (get_or script i no_entry).answer + total f (trace_of (drop (i + 1) script))
  total_more f short = at_drop_more (λ (es : List Entry). total f (trace_of es)) script i no_entry short

  pub total_all : (f : Call → Answer → ℕ) → length script ≤ i → total f (trace_of (drop i script)) ≡ 0
  total_all f long = at_drop_all (λ (es : List Entry). total f (trace_of es)) script i long
