use Rattle.forms.proofs.Grammatical.{forms_by_grammar}
use Rattle.forms.proofs.shapes.forms_by_grammar.Goals as goal

pub returns : goal.returns
returns c = forms_by_grammar
