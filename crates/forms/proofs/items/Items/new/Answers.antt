use Rattle.std.proofs.Common.{ap, ◌∙◌}
use Rattle.forms.specs.Items.{items}
use Rattle.forms.proofs.Itemized.{bytes_laid_out}
use Rattle.forms.proofs.items.Items.new.Goals as goal

pub returns-clause-bytes : goal.returns-clause-bytes
returns-clause-bytes c =
    bytes_laid_out c.inside.result.position (items 0 c.inside.result.bytes.now) ∙ ap (items 0) c.inside.ensures.bytes
