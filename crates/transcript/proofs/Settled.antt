-- A text has one transcript: the calls of a sheet, its queue and the choice of that queue settle the run, and so its rendering.
use Rattle.std.proofs.Common.{◌≡◌, ℕ, List, [], ◌++◌, length, Ok, Err, Result, sym, ap, ◌∙◌}
use Rattle.model.proofs.Settled.{choice_settles_runs}
use Rattle.model.specs.Machine.{fresh}
use Rattle.model.specs.Runs.{Trace}
use Rattle.model.specs.declared.duties.Duty.{Duty}
use Rattle.forms.specs.Faults.{Fault}
use Rattle.sheet.specs.Sheets.{Set, sheet_of}
use Rattle.transcript.specs.Renderings.{duty_lines, left_over, run_lines}
use Rattle.transcript.specs.Transcripts.{OneTranscript, PrintedOf, Transcript, choice_of, empty_queue}
use Rattle.transcript.proofs.Balanced.{empty_sound, left_over_waits}

one_trace : (s : Set) (out out' : List ℕ) (t : Transcript s out) (t' : Transcript s out') → t.trace ≡ t'.trace
one_trace s out out' t t' =
    choice_settles_runs (fresh s.table (empty_queue 64)) (choice_of s.queue) [] t.trace t'.trace t.end t'.end (empty_sound 64)
    t.promise.follows t'.promise.follows t.chosen t'.chosen (t.calls ∙ sym t'.calls)

abbrev by_trace : List Duty → Trace → List ℕ
by_trace table trace = duty_lines table (length table) ++ run_lines trace (left_over trace)

-- What is printed goes by the trace alone.
printed_by_trace : (s : Set) (out : List ℕ) (t : Transcript s out) → out ≡ by_trace s.table t.trace
printed_by_trace s out t =
    t.shows
    ∙ ap (λ (waiting : ℕ). duty_lines s.table (length s.table) ++ run_lines t.trace waiting)
    (sym (left_over_waits s.table t.trace t.end t.promise.follows))

one_printed : (r : Result Set Fault) (out out' : List ℕ) → PrintedOf r out → PrintedOf r out' → out ≡ out'
one_printed (Ok s) out out' t t' =
    printed_by_trace s out t ∙ ap (by_trace s.table) (one_trace s out out' t t') ∙ sym (printed_by_trace s out' t')
one_printed (Err f) out out' is is' = is ∙ sym is'

pub one_transcript : OneTranscript
one_transcript text out out' = one_printed (sheet_of text) out out'
