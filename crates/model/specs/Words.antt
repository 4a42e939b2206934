-- The words for who had a tick.
use Rattle.std.specs.Prelude.{ℕ, List, ◌++◌, codes, decimal}
use Rattle.model.specs.declared.calls.Who.{Who}
use Rattle.model.specs.declared.calls.Who.TheVariants.{Nobody, Duty, Errand}

-- `nobody`, `duty ROW`, `errand NUMBER`
abbrev pub had_by : Who → List ℕ
had_by Nobody = codes "nobody"
had_by (Duty row) = codes "duty " ++ decimal row
had_by (Errand number) = codes "errand " ++ decimal number
