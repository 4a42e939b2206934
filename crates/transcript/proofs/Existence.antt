-- A fault is printed as it is. The script of a sheet has a run over its table, which is admitted, and so a rendering.
use Rattle.std.proofs.Common.{◌≡◌, ℕ, true, List, [], Ok, Err, Result, refl}
use Rattle.model.proofs.Promise.{every_run_keeps_the_promise}
use Rattle.model.proofs.Spare.{fresh_keeps}
use Rattle.model.specs.Machine.{fresh}
use Rattle.model.specs.Table.{admitted}
use Rattle.queue.proofs.Named.{best_names_right, earliest_names_right}
use Rattle.queue.proofs.QueueAfter.{script_runs_from_empty}
use Rattle.queue.specs.Arrivals.{best_worth, earliest}
use Rattle.queue.specs.Scripts.{RunOf}
use Rattle.forms.specs.Faults.{Fault}
use Rattle.forms.specs.declared.sayings.QueueName.TheVariants.{First, Worth}
use Rattle.sheet.proofs.Tables.{sheet_admitted}
use Rattle.sheet.specs.Sheets.{Set, sheet_of}
use Rattle.transcript.specs.Existence.{EveryScriptRuns, ExactlyOneTranscript}
use Rattle.transcript.specs.Lines.{fault_line}
use Rattle.transcript.specs.Renderings.{rendered}
use Rattle.transcript.specs.Scripts.{script_of}
use Rattle.transcript.specs.Transcripts.{PrintedOf, Transcript, choice_of, empty_queue}
use Rattle.transcript.proofs.Balanced.{empty_sound}
use Rattle.transcript.proofs.Settled.{one_transcript}

pub every_script_runs : EveryScriptRuns
every_script_runs table First places script = script_runs_from_empty table earliest places script earliest_names_right
every_script_runs table Worth places script =
    script_runs_from_empty table best_worth places script (best_names_right (λ e. e.worth) (λ e. e.units))

module _ (s : Set) (ok : admitted s.table ≡ true) where
  run : RunOf (choice_of s.queue) [] (fresh s.table (empty_queue 64)) (script_of s.ats s.ticks)
  run = every_script_runs s.table s.queue 64 (script_of s.ats s.ticks)

  sheet_printed : Transcript s (rendered s.table run.trace run.end)
  sheet_printed =
      record {
        trace = run.trace;
        end = run.end;
        promise =
            every_run_keeps_the_promise (fresh s.table (empty_queue 64)) run.trace run.end (fresh_keeps s.table ok) (empty_sound 64) run.run;
        chosen = run.chosen;
        calls = run.made;
        shows = refl;
      }

some_printed : (r : Result Set Fault) → ((s : Set) → r ≡ Ok s → admitted s.table ≡ true) → (out : List ℕ) × PrintedOf r out
some_printed (Ok s) ok = let admits = ok s refl in (rendered s.table (run s admits).trace (run s admits).end, sheet_printed s admits)
some_printed (Err f) ok = (fault_line f, refl)

pub exactly_one_transcript : ExactlyOneTranscript
exactly_one_transcript text =
    let (out, printed) = some_printed (sheet_of text) (sheet_admitted text) in
    (out, record { printed = printed; only = λ other is. one_transcript text other out is printed })
