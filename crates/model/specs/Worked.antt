-- Worked examples, reckoned by hand and proved about the definitions.
use Rattle.std.specs.Prelude.{◌≡◌, ℕ, ◌+◌, List, [], ◌∷◌, replicate, Some}
use Rattle.model.specs.Machine.{released}
use Rattle.model.specs.Slack.{row_slack, table_slack}
use Rattle.model.specs.Table.{add_refusal, response}
use Rattle.model.specs.declared.duties.Duty.{Duty}
use Rattle.model.specs.declared.rows.Row.{Row}
use Rattle.model.specs.declared.rows.Row.TheVariants.{Idle, Ready}

abbrev pub duty : ℕ → ℕ → ℕ → Duty
duty c d t = record { cost = c; deadline = d; separation = t }

-- The rows of the first examples.
abbrev pub three : List Duty
three = duty 1 4 4 ∷ duty 2 6 6 ∷ duty 3 12 12 ∷ []

abbrev pub two : List Duty
two = duty 1 4 4 ∷ duty 2 6 6 ∷ []

-- All released at clock 0; none released yet.
abbrev pub all_released : List Row
all_released = released (duty 1 4 4) 0 ∷ released (duty 2 6 6) 0 ∷ released (duty 3 12 12) 0 ∷ []

abbrev pub none_released : List Row
none_released = replicate 3 (Idle 0)

abbrev pub whole : List Duty
whole = duty 4 4 4 ∷ []

-- A worked figure of Davis's thesis (see src/lib.rt), at clock 2.
abbrev pub figure : List Duty
figure = duty 1 4 6 ∷ duty 3 6 10 ∷ duty 1 11 12 ∷ []

abbrev pub figure_rows : List Row
figure_rows = Idle 6 ∷ Ready 2 6 10 ∷ Idle 5 ∷ []

-- The slack of row i at a clock, with the releases for it over.
abbrev pub slack_at : ℕ → List Duty → List Row → ℕ → ℕ
slack_at clock table rows i = row_slack (clock + 1) clock table rows i

pub record WorkedExamples : Type 0 where
  pub responses : (response three 0 ≡ Some 1) × (response three 1 ≡ Some 3) × (response three 2 ≡ Some 10)
  pub taken : add_refusal two 2 (duty 3 10 12) ≡ []
  pub too_tight : add_refusal two 2 (duty 3 9 12) ≡ 4 ∷ 2 ∷ []
  pub made_unschedulable : add_refusal (duty 3 3 5 ∷ []) 0 (duty 1 4 4) ≡ 4 ∷ 1 ∷ []
  pub slack_released : (slack_at 0 three all_released 0 ≡ 3)
      × (slack_at 0 three all_released 1 ≡ 2)
      × (slack_at 0 three all_released 2 ≡ 2)
      × (table_slack 1 0 three all_released ≡ 2)
  pub slack_idle : (slack_at 0 three none_released 0 ≡ 4)
      × (slack_at 0 three none_released 1 ≡ 3)
      × (slack_at 0 three none_released 2 ≡ 3)
      × (table_slack 1 0 three none_released ≡ 3)
  pub slack_whole : (slack_at 0 whole (Idle 0 ∷ []) 0 ≡ 1) × (slack_at 0 whole (released (duty 4 4 4) 0 ∷ []) 0 ≡ 0)
  pub slack_figure : slack_at 2 figure figure_rows 2 ≡ 6
  pub slack_no_rows : table_slack 1 0 [] [] ≡ 65535
