use Rattle.std.proofs.Common.{◌+◌, length, ap, ◌∙◌, length-append}
use Rattle.std.proofs.lemmas.Slice.Zip.{zip_turn}
use Rattle.model.specs.Demand.{no_row}
use Rattle.model.specs.Table.{no_duty}
use Rattle.workload.proofs.RowSlacks.{first_bounded, this_ahead, slack_more, streams_more}
use Rattle.workload.specs.Streams.{all_bounded}
use Rattle.workload.specs.Workloads.{work_in}
use Rattle.workload.proofs.workloads.Workload.slack.Goals as goal

pub invariant_of-ahead : goal.invariant_of-ahead
invariant_of-ahead c =
    let w = c.args.self.now in
    let (lt, fits, duty, row) = zip_turn (work_in w).table (work_in w).rows c.loop-duty.yielded _ _ c.next.new.self _ (cc) (cc) c.loop-duty.yielded_by _ c.in-Some.is c.next.ensures.steps in
    let h = this_ahead w (length c.loop-duty.yielded) lt _ _ (duty no_duty) (row no_row) in
    record { limits = h.limits; numbers = h.numbers; release = h.release_ahead; window = h.window_ahead }

pub invariant_of-demand-clause-bounded : goal.invariant_of-demand-clause-bounded
invariant_of-demand-clause-bounded c =
    let w = c.args.self.now in
    let i = length c.loop-duty.yielded in
    let (lt, fits, duty, row) = zip_turn (work_in w).table (work_in w).rows c.loop-duty.yielded _ _ c.next.new.self _ (cc) (cc) c.loop-duty.yielded_by _ c.in-Some.is c.next.ensures.steps in
    let streams = streams_more w i lt _ _ (duty no_duty) (row no_row) _ _ _ c.loop-duty.invariant.0 c.stream.ensures c.push.ensures.items in
    ap all_bounded (c.deref.ensures.0 ∙ streams) ∙ first_bounded w (i + 1)

pub loop-duty-preserved : goal.loop-duty-preserved
loop-duty-preserved c =
    let w = c.args.self.now in
    let i = length c.loop-duty.yielded in
    let (lt, fits, duty, row) = zip_turn (work_in w).table (work_in w).rows c.loop-duty.yielded _ _ c.next.new.self _ (cc) (cc) c.loop-duty.yielded_by _ c.in-Some.is c.next.ensures.steps in
    let streams = streams_more w i lt _ _ (duty no_duty) (row no_row) _ _ _ c.loop-duty.invariant.0 c.stream.ensures c.push.ensures.items in
    let slack = slack_more w i lt _ _ (duty no_duty) (row no_row) _ _ _ _
    (record {
      are = c.deref.ensures.0 ∙ streams;
      ends = c.window.ensures.value;
      short = c.window.ensures.bound;
      counts = c.idle_ticks.ensures;
    })
    c.loop-duty.invariant.1 in
    simp length-append (streams, c.min-least.ensures ∙ slack)
