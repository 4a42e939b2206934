-- Numbers count by value.
use Rattle.std.specs.Prelude.{◌≡◌, ℕ, ◌≤◌, List, ◌∷◌, decimal}
use Rattle.forms.specs.Items.{largest, value}

-- One that is written in decimal digits is read as itself, and zeros in front change nothing.
pub record NumbersByValue : Type 0 where
  pub as_written : (n : ℕ) → n ≤ largest → value (decimal n) ≡ n
  pub zeros_in_front : (i : List ℕ) → value (48 ∷ i) ≡ value i
