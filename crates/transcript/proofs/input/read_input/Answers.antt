use Rattle.std.proofs.Common.{◌≡◌, ℕ, List, [], ◌++◌, take, Some, None, Option, IfSome, ap, ◌∙◌, subst}
use Rattle.std.specs.Option.{option_map}
use Rattle.transcript.proofs.input.read_input.Goals as goal

-- What an input cut at a limit gave, behind nothing, is the input's bytes up to the limit.
cut_at : (known : Option (List ℕ)) (before text : List ℕ) (limit most : ℕ) → before ≡ [] → limit ≡ most
    → IfSome (option_map (take limit) known) (λ bytes. text ≡ before ++ bytes) → IfSome known (λ bytes. text ≡ take most bytes)
cut_at None before text limit most none at read = tt
cut_at (Some bytes) before text limit most none at read =
    read ∙ ap (λ (bs : List ℕ). bs ++ take limit bytes) none ∙ ap (λ (n : ℕ). take n bytes) at

pub returns : goal.returns
returns g c =
    let text = c.read_to_end.new.buf.items in
    let read =
    cut_at (g.R.Read.remaining c.take.result.inner) c.new-text.result.items text c.take.result.limit 32769 c.new-text.ensures.items
    c.take.ensures.limit c.in_ok-read_to_end.ensures.bytes in
    subst (λ (known : Option (List ℕ)). IfSome known (λ bytes. text ≡ take 32769 bytes))
    (ap g.R.Read.remaining c.take.ensures.inner) read
