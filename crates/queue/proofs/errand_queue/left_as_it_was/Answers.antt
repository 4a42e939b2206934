use Rattle.std.proofs.Common.{refl}
use Rattle.queue.proofs.Left.{left_same}
use Rattle.queue.proofs.errand_queue.left_as_it_was.Goals as goal

pub returns : goal.returns
returns g c q r left = left_same _ (λ x. x) (λ _ _ leaves. leaves.0 refl) q r left
