use Rattle.std.proofs.Common.{◌≡◌, take}
use Rattle.model.specs.Histories.{Chosen, GoesOn, History, history}
use Rattle.model.specs.Runs.{Run}
use Rattle.dispatcher.specs.Left.{LeftAlong}
use Rattle.dispatcher.specs.Scripts.{calls_of, trace_of}
use Rattle.dispatcher.specs.Views.{view}
use Rattle.dispatcher.proofs.runs.run.Given as goal

-- The calls so far are a run of the machine to the dispatcher's state, the queue went on by their history and was left
-- call by call, and the errand of every tick among them was chosen.
abbrev pub invariant-loop-entry : goal.invariant-loop-entry
invariant-loop-entry g l =
    Run (view g.Q.Queue.meaning l.initial.dispatcher) (trace_of (take l.entry-index l.script)) (view g.Q.Queue.meaning l.dispatcher)
    × (calls_of l.script ≡ calls_of l.initial.script)
    × GoesOn g.Q.Queue.arises l.initial.dispatcher.queue (history (trace_of (take l.entry-index l.script))) l.dispatcher.queue
    × LeftAlong g.Q.Queue.leaves l.initial.dispatcher.queue (trace_of (take l.entry-index l.script)) l.dispatcher.queue
    × ((past : History) → g.Q.Queue.arises past l.initial.dispatcher.queue
    → Chosen g.Q.Queue.choice past (trace_of (take l.entry-index l.script)))
