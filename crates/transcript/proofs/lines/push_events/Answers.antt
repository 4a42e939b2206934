use Rattle.std.proofs.Common.{ℕ, ◌+◌, ◌<◌, List, ◌++◌, length, get_or, drop, string_bytes, sym, ap, ◌∙◌, arith}
use Rattle.dispatcher.proofs.Scripted.{no_entry}
use Rattle.dispatcher.specs.Scripts.{trace_of}
use Rattle.transcript.specs.Lines.{event_line}
use Rattle.transcript.specs.Renderings.{event_lines}
use Rattle.transcript.proofs.Renderings.{at_most_one, events_all, events_more, part_more}
use Rattle.transcript.proofs.lines.push_events.Goals as goal

pub loop-entry-preserved : goal.loop-entry-preserved
loop-entry-preserved c =
    let script = c.args.script.now in
    let i = c.loop-entry.entry-index in
    let clock = c.loop-entry.clock in
    let e = get_or script i no_entry in
    let line = event_line clock e.call e.answer in
    let written = string_bytes c.loop-entry.out in
    let short : i < length script = omega arith in
    let moved = c.ticks_of-clock.ensures in
    let more =
    events_more script i clock short
    ∙ ap (λ (k : ℕ). line ++ event_lines (clock + k) (trace_of (drop (i + 1) script))) (sym moved) in
    record {
      all =
          part_more written line _ _ _ (ap (λ (bs : List ℕ). written ++ bs) (sym more) ∙ c.loop-entry.invariant.all) c.push_event.ensures.bytes;
      behind = omega (arith, at_most_one e.answer, moved, c.loop-entry.invariant.behind);
      grown = omega (arith, c.push_event.ensures.grown, c.loop-entry.invariant.grown);
      kept = omega (arith, c.push_event.ensures.kept, c.loop-entry.invariant.kept);
    }

pub returns-clause-bytes : goal.returns-clause-bytes
returns-clause-bytes c =
    events_all c.args.script.now c.loop-entry.entry-index c.loop-entry.clock _ _ (omega arith) c.loop-entry.invariant.all
