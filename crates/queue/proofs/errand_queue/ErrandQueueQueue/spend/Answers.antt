use Rattle.std.proofs.Common.{[], ◌∷◌, refl}
use Rattle.model.specs.Histories.{was_spent}
use Rattle.list.specs.Held.{held}
use Rattle.queue.proofs.Arises.{arises_spend, still_arose}
use Rattle.queue.proofs.Calls.{FirstErrand, last_spent, unit_spent, once_spent}
use Rattle.queue.proofs.errand_queue.ErrandQueueQueue.spend.Goals as goal

pub invariant_of-self : goal.invariant_of-self
invariant_of-self g c =
    let q = c.args.self.now in
    let m = c.remove.new.self in
    let e = c.errand-errand.result in
    let s = c.in_ok-slot.field-0.now in
    let front : FirstErrand q.list s e = record { at = cc (c.in_ok-slot.ensures); errand = c.errand-errand.ensures; once = q.once } in
    let done = last_spent q.list m s e front c.if-errand-le1.true c.remove.ensures.becomes in
    let goes_on = arises_spend g.R.Rule.worth g.R.Rule.units q.list m e.number q.once done in
    record {
      once = once_spent q.list m e.number done;
      arose = still_arose g.R.Rule.worth g.R.Rule.units (held q.list) (held m) (was_spent e.number ∷ []) goes_on q.arose;
    }

pub returns-then-errand-le1-clause-history : goal.returns-then-errand-le1-clause-history
returns-then-errand-le1-clause-history g c =
    let q = c.args.self.now in
    let m = c.remove.new.self in
    let e = c.errand-errand.result in
    let s = c.in_ok-slot.field-0.now in
    let front : FirstErrand q.list s e = record { at = cc (c.in_ok-slot.ensures); errand = c.errand-errand.ensures; once = q.once } in
    let done = last_spent q.list m s e front c.if-errand-le1.true c.remove.ensures.becomes in
    arises_spend g.R.Rule.worth g.R.Rule.units q.list m e.number q.once done

pub invariant_of-self-else-errand-le1 : goal.invariant_of-self-else-errand-le1
invariant_of-self-else-errand-le1 g c =
    let q = c.args.self.now in
    let m = c.replace.new.self in
    let e = c.errand-errand.result in
    let s = c.in_ok-slot.field-0.now in
    let front : FirstErrand q.list s e = record { at = cc (c.in_ok-slot.ensures); errand = c.errand-errand.ensures; once = q.once } in
    let done =
    unit_spent q.list m s e front c.if-errand-le1.false c.with_units.ensures c.replace.ensures.value c.replace.ensures.becomes in
    let goes_on = arises_spend g.R.Rule.worth g.R.Rule.units q.list m e.number q.once done in
    record {
      once = once_spent q.list m e.number done;
      arose = still_arose g.R.Rule.worth g.R.Rule.units (held q.list) (held m) (was_spent e.number ∷ []) goes_on q.arose;
    }

pub returns-else-errand-le1 : goal.returns-else-errand-le1
returns-else-errand-le1 g c =
    let q = c.args.self.now in
    let m = c.replace.new.self in
    let e = c.errand-errand.result in
    let s = c.in_ok-slot.field-0.now in
    let front : FirstErrand q.list s e = record { at = cc (c.in_ok-slot.ensures); errand = c.errand-errand.ensures; once = q.once } in
    let done =
    unit_spent q.list m s e front c.if-errand-le1.false c.with_units.ensures c.replace.ensures.value c.replace.ensures.becomes in
    record {
      means = done.spends;
      history = arises_spend g.R.Rule.worth g.R.Rule.units q.list m e.number q.once done;
      leaves = (λ added. cc, done.free, refl);
    }
