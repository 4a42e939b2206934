-- What any number of calls that add nothing to a queue's history leave, from what each of them leaves.
use Rattle.std.proofs.Common.{◌≡◌, refl, ◌∙◌}
use Rattle.queue.specs.Untouched.{Left, none, more}

-- A part that each such call leaves as it was is left as it was by all of them.
pub left_same : {Q A : Type 0} (u : Q → Q → Type 0) (part : Q → A) → ((q r : Q) → u q r → part r ≡ part q) → (q r : Q) →
    Left u q r → part r ≡ part q
left_same u part same q r none = refl
left_same u part same q r (more {q' = p} left last) = same p r last ∙ left_same u part same q p left
