use Rattle.std.proofs.Common.{◌≡◌, codes, slice_index, ap, rules, arith}
use Rattle.std.specs.Option.{option_map}
use Rattle.std.proofs.lemmas.Slice.Eq.{text_from_reads}
use Rattle.model.specs.declared.calls.Call.TheVariants.{Release, Request, Withdraw}
use Rattle.forms.proofs.calls.worded_call.Goals as goal

pub returns-in_ok-row-in-release : goal.returns-in_ok-row-in-release
returns-in_ok-row-in-release c =
    let is : c.args.word.now ≡ codes "release" = text_from_reads _ _ (omega arith) (search rules) in
    rw is (ap (option_map (λ vs. Release (slice_index vs 0))) c.in_ok-row-in-release.ensures)

pub returns-in_ok-number-in-request : goal.returns-in_ok-number-in-request
returns-in_ok-number-in-request c =
    let is : c.args.word.now ≡ codes "request" = text_from_reads _ _ (omega arith) (search rules) in
    rw is
    (ap (option_map (λ vs. Request (record { number = slice_index vs 0; units = slice_index vs 1; worth = slice_index vs 2 })))
    c.in_ok-number-in-request.ensures)

pub returns-in_ok-number-in-withdraw : goal.returns-in_ok-number-in-withdraw
returns-in_ok-number-in-withdraw c =
    let is : c.args.word.now ≡ codes "withdraw" = text_from_reads _ _ (omega arith) (search rules) in
    rw is (ap (option_map (λ vs. Withdraw (slice_index vs 0))) c.in_ok-number-in-withdraw.ensures)
