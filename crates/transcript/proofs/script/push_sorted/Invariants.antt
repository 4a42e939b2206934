use Rattle.std.proofs.Common.{◌≡◌, vec_capacity}
use Rattle.dispatcher.specs.Scripts.{calls_of}
use Rattle.transcript.proofs.Scripts.{MadeUpTo}
use Rattle.transcript.specs.Timetables.{at_lines_of}
use Rattle.transcript.proofs.script.push_sorted.Given as goal

-- The script up to this clock is made, and the at-lines from it on are ahead.
abbrev pub invariant-loop-clock : goal.invariant-loop-clock
invariant-loop-clock l =
    record {
      made : MadeUpTo (at_lines_of l.ats) l.clock l.upcoming.ats.now (calls_of l.script.items);
      room : vec_capacity l.script ≡ vec_capacity l.initial.script;
    }
