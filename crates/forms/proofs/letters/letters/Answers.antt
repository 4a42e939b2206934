use Rattle.std.proofs.Common.{sym, ap, ◌∙◌}
use Rattle.forms.proofs.Firsts.{bad_at, bad_letter_found}
use Rattle.forms.proofs.letters.letters.Goals as goal

pub returns-in-None : goal.returns-in-None
returns-in-None c = ap (bad_at c.args.line.part.position) c.in-None.ensures ∙ sym (bad_letter_found c.args.line.part.position c.args.line.part.bytes.now)

pub returns-in-Some : goal.returns-in-Some
returns-in-Some c = ap (bad_at c.args.line.part.position) c.in-Some.ensures ∙ sym (bad_letter_found c.args.line.part.position c.args.line.part.bytes.now)
