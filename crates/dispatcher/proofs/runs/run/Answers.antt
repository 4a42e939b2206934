use Rattle.std.proofs.Common.{◌<◌, List, ◌++◌, length, get_or, take, sym, refl, ◌∙◌, subst, arith}
use Rattle.std.proofs.lemmas.List.{take_all}
use Rattle.model.proofs.Histories.{chosen_more, chosen_none, goes_on_more, history_more, stays_on, step_named}
use Rattle.model.proofs.Promise.{every_run_keeps_the_promise}
use Rattle.model.proofs.Spare.{fresh_keeps}
use Rattle.model.proofs.Steps.{run_table}
use Rattle.model.specs.Histories.{Chosen, GoesOn, History, by_call, history}
use Rattle.model.specs.Machine.{State, fresh}
use Rattle.model.specs.Runs.{Run, Trace, stay}
use Rattle.table.specs.Settings.{table_of}
use Rattle.queue.specs.Untouched.{none}
use Rattle.dispatcher.proofs.Scripted.{calls_stay, left_along, left_more, no_entry, run_more, trace_more}
use Rattle.dispatcher.specs.Left.{LeftAlong}
use Rattle.dispatcher.specs.Scripts.{trace_of}
use Rattle.dispatcher.specs.Views.{view}
use Rattle.dispatcher.specs.declared.entries.Entry.{Entry}
use Rattle.dispatcher.proofs.runs.run.Goals as goal

pub loop-entry-init : goal.loop-entry-init
loop-entry-init g c =
    let q = c.start-dispatcher.result.queue in
    (stay, refl, stays_on g.Q.Queue.arises q q refl, refl, λ past _. chosen_none g.Q.Queue.choice past)

pub loop-entry-preserved : goal.loop-entry-preserved
loop-entry-preserved g c =
    let (run, calls, goes_on, left, chosen) = c.loop-entry.invariant in
    let script = c.loop-entry.script in
    let i = c.loop-entry.entry-index in
    let answer = c.carry_out-entry.result in
    let first = c.start-dispatcher.result in
    let before = view g.Q.Queue.meaning c.loop-entry.dispatcher in
    let after = view g.Q.Queue.meaning c.carry_out-entry.new.self in
    let arises = g.Q.Queue.arises in
    let choice = g.Q.Queue.choice in
    let leaves = g.Q.Queue.leaves in
    let trace = trace_of (take i script) in
    let call = (get_or script i no_entry).call in
    let q = c.loop-entry.dispatcher.queue in
    let q' = c.carry_out-entry.new.self.queue in
    let short : i < length script = omega arith in
    let more = sym (trace_more script i answer short) in
    let next = c.carry_out-entry.ensures.step in (
      subst (λ (t : Trace). Run (view g.Q.Queue.meaning first) t after) more (run_more call answer run next),
      calls_stay script i answer short ∙ calls,
      subst (λ (t : Trace). GoesOn arises first.queue (history t) q') more
          (subst (λ (h : History). GoesOn arises first.queue h q') (sym (history_more trace call answer))
          (goes_on_more arises first.queue q q' (history trace) (by_call call answer) goes_on c.carry_out-entry.ensures.history)),
      subst (λ (t : Trace). LeftAlong leaves first.queue t q') more (left_more leaves first.queue q q' trace call answer left c.carry_out-entry.ensures.leaves),
      λ past arose.
          subst (λ (t : Trace). Chosen choice past t) more
          (chosen_more choice past trace call answer (chosen past arose)
          (λ slack n tick ticked.
          sym (g.Q.Queue.chooses (past ++ history trace) q (goes_on past arose))
          ∙ step_named before call answer after next slack n tick ticked)),
    )

pub returns : goal.returns
returns g c =
    let (run, calls, goes_on, left, chosen) = c.loop-entry.invariant in
    let setting = c.args.setting in
    let m = g.Q.Queue.meaning c.args.queue in
    let end = view g.Q.Queue.meaning c.loop-entry.dispatcher in
    let whole = take_all c.loop-entry.entry-index c.loop-entry.script (omega arith) in
    let all : Run (view g.Q.Queue.meaning c.start-dispatcher.result) (trace_of c.loop-entry.script) end =
    subst (λ (s : List Entry). Run (view g.Q.Queue.meaning c.start-dispatcher.result) (trace_of s) end) whole run in
    let start : State = fresh (table_of setting) m in
    let fresh-run : Run start (trace_of c.loop-entry.script) end =
    subst (λ (s : State). Run s (trace_of c.loop-entry.script) end) c.start-dispatcher.ensures.state all in
    let q = c.start-dispatcher.result.queue in
    let started : (past : History) → g.Q.Queue.arises past c.args.queue → g.Q.Queue.arises past q =
    λ past arose. subst (g.Q.Queue.arises past) (sym c.start-dispatcher.ensures.queue) arose in
    let went : GoesOn g.Q.Queue.arises q (history (trace_of c.loop-entry.script)) c.loop-entry.dispatcher.queue =
    subst (λ (s : List Entry). GoesOn g.Q.Queue.arises q (history (trace_of s)) c.loop-entry.dispatcher.queue) whole goes_on in
    let along : LeftAlong g.Q.Queue.leaves c.args.queue (trace_of c.loop-entry.script) c.loop-entry.dispatcher.queue =
    subst (λ start. LeftAlong g.Q.Queue.leaves start (trace_of c.loop-entry.script) c.loop-entry.dispatcher.queue) c.start-dispatcher.ensures.queue
    (subst (λ (s : List Entry). LeftAlong g.Q.Queue.leaves q (trace_of s) c.loop-entry.dispatcher.queue) whole left) in
    record {
      promise = every_run_keeps_the_promise start (trace_of c.loop-entry.script) end (fresh_keeps (table_of setting) setting.admits) (g.Q.Queue.sound c.args.queue) fresh-run;
      calls = calls;
      table = run_table start (trace_of c.loop-entry.script) end fresh-run;
      history = λ past arose. went past (started past arose);
      untouched = left_along g.Q.Queue.leaves c.args.queue c.args.queue c.loop-entry.dispatcher.queue (trace_of c.loop-entry.script) none along;
      leaves = along;
      chosen = λ past arose. subst (λ (s : List Entry). Chosen g.Q.Queue.choice past (trace_of s)) whole (chosen past (started past arose));
    }
