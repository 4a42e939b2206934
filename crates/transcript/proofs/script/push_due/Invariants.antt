use Rattle.std.proofs.Common.{◌≡◌, ◌++◌, length, vec_capacity}
use Rattle.std.specs.List.{flat_map}
use Rattle.dispatcher.specs.Scripts.{calls_of}
use Rattle.sheet.specs.Ats.{calls_at}
use Rattle.transcript.specs.Timetables.{due, behind_due, at_lines_of}
use Rattle.transcript.proofs.script.push_due.Given as goal

-- The calls so far, and those of the at-lines that are still due, are all; and the same at-lines come later.
abbrev pub invariant-loop-at : goal.invariant-loop-at
invariant-loop-at l =
    record {
      all :
          calls_of l.script.items ++ flat_map calls_at (at_lines_of (due l.clock l.upcoming.ats.now))
          ≡ calls_of l.initial.script.items ++ flat_map calls_at (at_lines_of (due l.clock l.initial.upcoming.ats.now));
      rest : behind_due l.clock l.upcoming.ats.now ≡ behind_due l.clock l.initial.upcoming.ats.now;
      room : vec_capacity l.script ≡ vec_capacity l.initial.script;
    }

abbrev pub decreases-loop-at : goal.decreases-loop-at
decreases-loop-at l = length (due l.clock l.upcoming.ats.now)
