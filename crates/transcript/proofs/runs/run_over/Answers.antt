use Rattle.std.proofs.Common.{[], sym, ap, ◌∙◌}
use Rattle.forms.specs.declared.sayings.QueueName.{QueueName}
use Rattle.model.specs.Histories.{history}
use Rattle.queue.proofs.Earliest.{alike_by_arrival}
use Rattle.table.specs.Settings.{table_of}
use Rattle.transcript.specs.Transcripts.{choice_of}
use Rattle.transcript.proofs.Queues.{promise_from_empty}
use Rattle.transcript.proofs.runs.run_over.Goals as goal

pub returns-in-First-clause-promise : goal.returns-in-First-clause-promise
returns-in-First-clause-promise c =
    promise_from_empty c.new.result.list 64 (table_of c.args.setting) _ _ c.new.ensures.empty c.new.ensures.size c.run.ensures.promise

pub returns-in-Worth-clause-promise : goal.returns-in-Worth-clause-promise
returns-in-Worth-clause-promise c =
    promise_from_empty c.new-in-Worth.result.list 64 (table_of c.args.setting) _ _ c.new-in-Worth.ensures.empty
    c.new-in-Worth.ensures.size c.run-in-Worth.ensures.promise

pub returns-in-First-clause-chosen : goal.returns-in-First-clause-chosen
returns-in-First-clause-chosen c before after slack n is =
    ap (λ (name : QueueName). choice_of name (history before)) c.in-First.is
    ∙ sym (alike_by_arrival (history before))
    ∙ c.run.ensures.chosen [] c.new.ensures.history before after slack n is

pub returns-in-Worth-clause-chosen : goal.returns-in-Worth-clause-chosen
returns-in-Worth-clause-chosen c before after slack n is =
    ap (λ (name : QueueName). choice_of name (history before)) c.in-Worth.is
    ∙ c.run-in-Worth.ensures.chosen [] c.new-in-Worth.ensures.history before after slack n is
