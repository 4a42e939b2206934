-- A dispatcher as a state of the machine, its queue by its meaning.
use Rattle.std.specs.Prelude.{Ok, Err, Result}
use Rattle.model.specs.Machine.{State}
use Rattle.model.specs.Queues.{Meaning}
use Rattle.model.specs.declared.calls.Answer.{Answer}
use Rattle.model.specs.declared.calls.Answer.TheVariants.{Refused}
use Rattle.model.specs.declared.refusals.Refusal.{Refusal}
use Rattle.workload.specs.Workloads.{work_in}
use Rattle.dispatcher.specs.declared.dispatchers.Dispatcher.{Dispatcher}

module _ {Q : Type 0} where
  abbrev pub view : (Q → Meaning) → Dispatcher Q → State
  view meaning d = record { work = work_in d.work; queue = meaning d.queue }

-- A refusal is an answer too.
abbrev pub answer_of : Result Answer Refusal → Answer
answer_of (Ok answer) = answer
answer_of (Err why) = Refused why
