use Rattle.std.proofs.Common.{◌≡◌, ◌++◌, vec_capacity}
use Rattle.dispatcher.specs.Scripts.{calls_of}
use Rattle.sheet.specs.Ats.{calls_left}
use Rattle.transcript.proofs.script.push_calls.Given as goal

-- The calls so far, and those that are left, are all.
abbrev pub invariant-loop-call : goal.invariant-loop-call
invariant-loop-call l =
    record {
      all :
          calls_of l.script.items ++ calls_left l.call-iterator
          ≡ calls_of l.initial.script.items ++ calls_left l.initial.call-iterator;
      room : vec_capacity l.script ≡ vec_capacity l.initial.script;
    }
