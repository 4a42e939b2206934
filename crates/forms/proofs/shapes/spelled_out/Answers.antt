use Rattle.std.proofs.Common.{ℕ, ◌∙◌, rules, tests}
use Rattle.std.proofs.lemmas.Iterator.{YieldsList-from_slice, YieldsList-from_zip}
use Rattle.std.proofs.lemmas.Iterator.Adapters.{YieldsList-from_skip}
use Rattle.std.proofs.lemmas.Iterator.Consumers.{YieldsList-at}
use Rattle.std.proofs.lemmas.Iterator.Search.{all_from_yields_List}
use Rattle.forms.specs.Forms.{may_follow}
use Rattle.forms.proofs.Pairs.{spelled_by_pairs}
use Rattle.forms.proofs.shapes.spelled_out.Goals as goal

pub returns : goal.returns
returns c =
    let part = c.args.part.now in
    all_from_yields_List (λ (p : ℕ × ℕ). may_follow p.0 p.1) c.all.new.self _ c.all.result c.all.ensures.ran
    (YieldsList-from_zip
    (YieldsList-at c.zip.ensures.first (YieldsList-from_slice part cc))
    (YieldsList-at c.zip.ensures.second (YieldsList-from_skip 1 (YieldsList-at c.skip.ensures.source (YieldsList-from_slice part cc)) c.skip.ensures.count)))
    (λ x b q k. search (rules, tests))
    ∙ spelled_by_pairs part
