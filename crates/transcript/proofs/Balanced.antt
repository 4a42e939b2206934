-- A sheet is run from an empty queue, so what a run of it leaves waiting is what was accepted, and neither served nor withdrawn.
use Rattle.std.proofs.Common.{◌≡◌, ℕ, List, [], ◌++◌, length, refl, ap, ◌∙◌, arith}
use Rattle.model.proofs.Totals.{totals_balance}
use Rattle.model.specs.Machine.{State, fresh}
use Rattle.model.specs.Queues.{Sound}
use Rattle.model.specs.Runs.{Run, Trace}
use Rattle.model.specs.Totals.{total_units}
use Rattle.model.specs.declared.duties.Duty.{Duty}
use Rattle.transcript.specs.Renderings.{duty_lines, left_over, rendered, run_lines}
use Rattle.transcript.specs.Transcripts.{empty_queue}

pub empty_sound : (places : ℕ) → Sound (empty_queue places)
empty_sound places = record { each_once = refl; few = omega arith; names = refl }

module _ (table : List Duty) (trace : Trace) (end : State) (run : Run (fresh table (empty_queue 64)) trace end) where
  pub left_over_waits : left_over trace ≡ total_units end.queue.waiting
  left_over_waits = omega (arith, totals_balance (fresh table (empty_queue 64)) trace end (empty_sound 64) run)

  -- What is written behind nothing: the rows, and then the run with what is left over.
  pub written_rendered : (start duties out : List ℕ)
      → start ≡ []
      → duties ≡ start ++ duty_lines table (length table)
      → out ≡ duties ++ run_lines trace (left_over trace)
      → out ≡ rendered table trace end
  written_rendered start duties out nothing rows happened =
      happened
      ∙ ap (λ (bs : List ℕ). bs ++ run_lines trace (left_over trace))
      (rows ∙ ap (λ (bs : List ℕ). bs ++ duty_lines table (length table)) nothing)
      ∙ ap (λ (waiting : ℕ). duty_lines table (length table) ++ run_lines trace waiting) left_over_waits
