use Rattle.std.proofs.Common.{◌+◌, List, refl, sym, ap, ◌∙◌, arith, length, subst, vec_capacity}
use Rattle.std.proofs.lemmas.List.{length-map}
use Rattle.dispatcher.specs.Scripts.{call_of, calls_of}
use Rattle.dispatcher.specs.declared.entries.Entry.{Entry}
use Rattle.model.specs.declared.calls.Call.TheVariants.{Tick}
use Rattle.transcript.proofs.Scripts.{MadeUpTo, calls_push, clock_fits, made_more}
use Rattle.transcript.proofs.Timetables.{all_ahead}
use Rattle.transcript.specs.Timetables.{Timed, at_lines_of}
use Rattle.transcript.proofs.script.push_sorted.Goals as goal

pub loop-clock-init : goal.loop-clock-init
loop-clock-init c =
    record {
      made = record { calls = ap calls_of c.requires.empty; ahead = all_ahead c.args.ats.now c.requires.in_order };
      room = refl;
    }

pub push_due-requires : goal.push_due-requires
push_due-requires c =
    omega (
      arith,
      clock_fits c.args.ticks (vec_capacity c.args.script.now) c.loop-clock.invariant.made (omega arith) c.requires.room,
      c.loop-clock.invariant.room,
    )

pub push_reserved-requires : goal.push_reserved-requires
push_reserved-requires c =
    omega (
      arith,
      clock_fits c.args.ticks (vec_capacity c.args.script.now) c.loop-clock.invariant.made (omega arith) c.requires.room,
      ap length c.push_due.ensures.calls,
      length-map c.push_due.new.script.items call_of,
      c.push_due.ensures.room,
      c.loop-clock.invariant.room,
    )

pub loop-clock-preserved : goal.loop-clock-preserved
loop-clock-preserved c =
    let between = c.push_due.new.script.items in
    let after = c.push_reserved.new.self.items in
    let tick = calls_push between after c.from.result Tick c.push_reserved.ensures.items (ap (λ (e : Entry). e.call) c.from.ensures) in
    record {
      made =
          subst (λ (ts : List Timed). MadeUpTo (at_lines_of c.args.ats.now) (c.loop-clock.clock + 1) ts (calls_of after))
          (sym c.push_due.ensures.rest)
          (made_more (calls_of between) (calls_of after) c.loop-clock.invariant.made c.push_due.ensures.calls tick);
      room = c.push_reserved.ensures.capacity ∙ c.push_due.ensures.room ∙ c.loop-clock.invariant.room;
    }
