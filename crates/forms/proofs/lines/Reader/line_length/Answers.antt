use Rattle.std.proofs.Common.{◌≡◌, eqb, length, unwrap_or, position, ap, ◌∙◌, rules, tests}
use Rattle.std.proofs.lemmas.Iterator.{YieldsList-from_slice}
use Rattle.std.proofs.lemmas.Iterator.Search.{position_from_yields_List}
use Rattle.forms.proofs.Firsts.{line_length_found, line_length_within}
use Rattle.forms.proofs.lines.Reader.line_length.Goals as goal

pub returns : goal.returns
returns c =
    let bytes = c.args.bytes.now in
    let found : c.position.result ≡ position (λ b. eqb b 10) bytes =
    position_from_yields_List (λ b. eqb b 10) _ _ _ c.position.ensures.ran (YieldsList-from_slice bytes cc) (λ x b q k. search (rules, tests)) in
    let value = c.unwrap_or.ensures ∙ ap (λ o. unwrap_or o (length bytes)) found ∙ line_length_found bytes in
    record { value = value; within = rw value (line_length_within bytes) }
