use Rattle.std.proofs.Common.{Option, sym, subst, refl}
use Rattle.model.proofs.Histories.{run_adds_nothing, stays_on}
use Rattle.model.specs.Histories.{GoesOn, History}
use Rattle.model.specs.Machine.{SparedOrRun, errand_due}
use Rattle.model.specs.declared.calls.Who.{Who}
use Rattle.workload.specs.Workloads.{work_in}
use Rattle.dispatcher.proofs.dispatchers.Dispatcher.tick.Goals as goal

-- A tick that is not to spare adds nothing to the history of the queue.
pub returns-in-Some-clause-history : goal.returns-in-Some-clause-history
returns-in-Some-clause-history g c =
    let w = work_in c.args.self.now.work in
    let w' = work_in c.tick.new.self in
    let due = errand_due w c.errand_waits-errand_waits.result in
    let q = c.args.self.now.queue in
    let ran = subst (λ (turn : Option Who). SparedOrRun due w turn w') c.in-Some.is c.in_ok-slack.ensures.step.2 in
    subst (λ (added : History). GoesOn g.Q.Queue.arises q added q) (sym (run_adds_nothing due w c.in-Some.who w' ran))
    (stays_on g.Q.Queue.arises q q refl)
