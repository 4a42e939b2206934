use Rattle.std.proofs.Common.{◌≡◌, ◌+◌, ◌*◌, ◌≤◌, ◌++◌, drop, string_bytes, string_capacity, string_len}
use Rattle.dispatcher.specs.Scripts.{trace_of}
use Rattle.transcript.specs.Renderings.{event_lines}
use Rattle.transcript.proofs.lines.push_events.Given as goal

-- What is written, and what is still to be written from this clock on, is all; and no line is longer than 96 bytes.
abbrev pub invariant-loop-entry : goal.invariant-loop-entry
invariant-loop-entry l =
    record {
      all :
          string_bytes l.out ++ event_lines l.clock (trace_of (drop l.entry-index l.script))
          ≡ string_bytes l.initial.out ++ event_lines 0 (trace_of l.script);
      behind : l.clock ≤ l.entry-index;
      grown : string_len l.out ≤ string_len l.initial.out + 96 * l.entry-index;
      kept : string_capacity l.initial.out ≤ string_capacity l.out;
    }
