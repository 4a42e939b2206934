use Rattle.std.proofs.Common.{◌≡◌, true, false, is_some, refl}
use Rattle.model.specs.Histories.{by_put}
use Rattle.model.specs.declared.refusals.Refusal.TheVariants.{AlreadyWaiting}
use Rattle.list.specs.Held.{held}
use Rattle.queue.specs.Lists.{place_of}
use Rattle.queue.proofs.Arises.{arises_put, still_arose}
use Rattle.queue.proofs.Calls.{NewErrand, free_put, once_put, put_inserted, put_waits}
use Rattle.queue.proofs.SameQueue.{refused_put, same_queue}
use Rattle.queue.proofs.errand_queue.ErrandQueueQueue.put.Goals as goal

pub returns-then-is_some-clause-means : goal.returns-then-is_some-clause-means
returns-then-is_some-clause-means g c =
    let q = c.args.self.now in
    let waits : is_some (place_of c.args.errand.number (held q.list)) ≡ true = cc in
    put_waits (Unit {0}) q.list c.args.errand AlreadyWaiting c.in_ok-slot.ensures.0 waits refl

pub invariant_of-self : goal.invariant_of-self
invariant_of-self g c =
    let q = c.args.self.now in
    let none : is_some (place_of c.args.errand.number (held q.list)) ≡ false = cc in
    let made = c.in_ok-slot.ensures in
    let new : NewErrand q.list c.in_ok-slot.slot c.args.errand =
    record { absent = none; errand = made.1.errand; within = made.0; once = q.once } in
    let put = put_inserted q.list c.insert.new.self c.in_ok-slot.slot c.args.errand c.insert.result new c.insert.ensures in
    let goes_on =
    arises_put g.R.Rule.worth g.R.Rule.units q.list c.insert.new.self c.in_ok-slot.slot c.args.errand c.insert.result made.1
    c.insert.ensures in
    record {
      once = once_put q.list c.insert.new.self c.args.errand c.insert.result put q.once;
      arose =
          still_arose g.R.Rule.worth g.R.Rule.units (held q.list) (held c.insert.new.self) (by_put c.args.errand c.insert.result)
          goes_on q.arose;
    }

pub returns-clause-means : goal.returns-clause-means
returns-clause-means g c =
    let q = c.args.self.now in
    let none : is_some (place_of c.args.errand.number (held q.list)) ≡ false = cc in
    let made = c.in_ok-slot.ensures in
    put_inserted q.list c.insert.new.self c.in_ok-slot.slot c.args.errand c.insert.result
    (record { absent = none; errand = made.1.errand; within = made.0; once = q.once }) c.insert.ensures

pub returns-clause-history : goal.returns-clause-history
returns-clause-history g c =
    arises_put g.R.Rule.worth g.R.Rule.units c.args.self.now.list c.insert.new.self c.in_ok-slot.slot c.args.errand c.insert.result
    c.in_ok-slot.ensures.1 c.insert.ensures

pub returns-clause-leaves : goal.returns-clause-leaves
returns-clause-leaves g c =
    let q = c.args.self.now in
    let m = c.insert.new.self in
    let s = c.in_ok-slot.slot in
    let e = c.args.errand in (
      λ nothing. same_queue q _ (refused_put q.list m s e c.insert.result nothing c.insert.ensures) refl refl,
      free_put q.list m s e c.insert.result c.insert.ensures,
      refl,
    )
