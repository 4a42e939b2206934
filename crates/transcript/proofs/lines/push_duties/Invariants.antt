use Rattle.std.proofs.Common.{◌≡◌, ◌+◌, ◌*◌, ◌≤◌, ◌++◌, string_bytes, string_capacity, string_len}
use Rattle.table.specs.Settings.{table_of}
use Rattle.transcript.specs.Renderings.{duty_lines}
use Rattle.transcript.proofs.lines.push_duties.Given as goal

-- The rows so far are written, and no line is longer than 96 bytes.
abbrev pub invariant-loop-row : goal.invariant-loop-row
invariant-loop-row l =
    record {
      rows : string_bytes l.out ≡ string_bytes l.initial.out ++ duty_lines (table_of l.setting) l.row;
      grown : string_len l.out ≤ string_len l.initial.out + 96 * l.row;
      kept : string_capacity l.initial.out ≤ string_capacity l.out;
    }
