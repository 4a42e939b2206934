-- The greatest and the lowest value of a function, and the slack of a table as the lowest of its rows'.
use Rattle.std.proofs.Common.{◌≡◌, ℕ, zero, suc, ◌<◌, ◌≤◌, List, [], ◌∷◌, length, refl, ⊎_elim, arith}
use Rattle.std.proofs.lemmas.Bool.{cases_lt, cases_order}
use Rattle.model.specs.Searches.{greatest, lowest}
use Rattle.model.specs.Slack.{row_slack, table_slack}
use Rattle.model.specs.declared.duties.Duty.{Duty}
use Rattle.model.specs.declared.rows.Row.{Row}

module _ (f : ℕ → ℕ) where
  pub greatest_above : (n i : ℕ) → i ≤ n → f i ≤ greatest f n
  greatest_above zero i h = let z : i ≡ 0 = omega arith in rw z (omega arith)
  greatest_above (suc n) i h =
      ⊎_elim
      (λ same. rw same (omega arith))
      (⊎_elim (λ less. omega (arith, greatest_above n i (omega arith))) (λ more. absurd (omega arith)))
      (cases_order i (suc n))

  pub greatest_taken : (n : ℕ) → (i : ℕ) × (i ≤ n) × (greatest f n ≡ f i)
  greatest_taken zero = (0, omega arith, refl)
  greatest_taken (suc n) =
      let (i, inside, taken) = greatest_taken n in
      ⊎_elim
      (λ last. (suc n, omega arith, omega arith))
      (λ before. (i, omega arith, omega arith))
      (cases_lt (greatest f n) (f (suc n)))

  pub lowest_below : (n i : ℕ) → i ≤ n → lowest f n ≤ f i
  lowest_below zero i h = let z : i ≡ 0 = omega arith in rw z (omega arith)
  lowest_below (suc n) i h =
      ⊎_elim
      (λ same. rw same (omega arith))
      (⊎_elim (λ less. omega (arith, lowest_below n i (omega arith))) (λ more. absurd (omega arith)))
      (cases_order i (suc n))

  pub lowest_taken : (n : ℕ) → (i : ℕ) × (i ≤ n) × (lowest f n ≡ f i)
  lowest_taken zero = (0, omega arith, refl)
  lowest_taken (suc n) =
      let (i, inside, taken) = lowest_taken n in
      ⊎_elim
      (λ last. (suc n, omega arith, omega arith))
      (λ before. (i, omega arith, omega arith))
      (cases_lt (f (suc n)) (lowest f n))

-- No row has less slack than the table.
pub slack_least :
    (from clock : ℕ) (table : List Duty) (rows : List Row) (i : ℕ)
    → i < length table → table_slack from clock table rows ≤ row_slack from clock table rows i
slack_least from clock [] rows i short = absurd (omega arith)
slack_least from clock (duty ∷ table) rows i short = lowest_below (row_slack from clock (duty ∷ table) rows) (length table) i (omega arith)

-- A table without slack has a row without slack.
pub slackless_row :
    (from clock : ℕ) (table : List Duty) (rows : List Row)
    → table_slack from clock table rows < 1 → (i : ℕ) × (i < length table) × (row_slack from clock table rows i < 1)
slackless_row from clock [] rows none = absurd (omega arith)
slackless_row from clock (duty ∷ table) rows none =
    let (i, inside, taken) = lowest_taken (row_slack from clock (duty ∷ table) rows) (length table) in
    (i, omega arith, omega arith)
