use Rattle.std.proofs.Common.{◌≡◌, [], ◌∷◌, get_or, Some, None, Err, refl, ap, ◌∙◌, rules}
use Rattle.model.specs.Histories.{was_taken}
use Rattle.model.specs.declared.refusals.Refusal.TheVariants.{NotWaiting}
use Rattle.list.specs.Held.{held}
use Rattle.queue.specs.Lists.{place_of}
use Rattle.queue.proofs.Arises.{arises_take, still_arose}
use Rattle.queue.proofs.Calls.{ErrandAt, errand_taken, once_taken, take_missing}
use Rattle.queue.proofs.errand_queue.ErrandQueueQueue.take.Goals as goal

pub returns-in_err-place-clause-means : goal.returns-in_err-place-clause-means
returns-in_err-place-clause-means g c =
    let l = c.args.self.now.list in
    let refused : c.from_residual.result ≡ Err NotWaiting = search rules in
    let none : place_of c.args.number (held l) ≡ None = cc (c.in_err-place.ensures.ok_part) in
    take_missing l c.args.number c.from_residual.result none refused

pub invariant_of-self : goal.invariant_of-self
invariant_of-self g c =
    let q = c.args.self.now in
    let m = c.remove.new.self in
    let n = c.args.number in
    let i = c.in_ok-place.place in
    let s = c.index-entries-place.result in
    let place : place_of n (held q.list) ≡ Some i = cc (c.in_ok-place.ensures.ok_part) in
    let read = c.index-entries-place.is ∙ ap (λ ss. get_or ss i s) c.entries-2.ensures in
    let here : ErrandAt q.list n i s c.errand-units.result =
    record { place = place; read = read; errand = c.errand-units.ensures; once = q.once } in
    let done = errand_taken q.list m here c.remove.ensures.becomes in
    let goes_on = arises_take g.R.Rule.worth g.R.Rule.units q.list m n c.errand-units.result.units q.once done in
    record {
      once = once_taken q.list m n c.errand-units.result.units done;
      arose = still_arose g.R.Rule.worth g.R.Rule.units (held q.list) (held m) (was_taken n ∷ []) goes_on q.arose;
    }

pub returns : goal.returns
returns g c =
    let q = c.args.self.now in
    let m = c.remove.new.self in
    let n = c.args.number in
    let i = c.in_ok-place.place in
    let s = c.index-entries-place.result in
    let place : place_of n (held q.list) ≡ Some i = cc (c.in_ok-place.ensures.ok_part) in
    let read = c.index-entries-place.is ∙ ap (λ ss. get_or ss i s) c.entries-2.ensures in
    let here : ErrandAt q.list n i s c.errand-units.result =
    record { place = place; read = read; errand = c.errand-units.ensures; once = q.once } in
    let done = errand_taken q.list m here c.remove.ensures.becomes in
    record {
      means = done.takes;
      history = arises_take g.R.Rule.worth g.R.Rule.units q.list m n c.errand-units.result.units q.once done;
      leaves = (λ added. cc, done.free, refl);
    }
