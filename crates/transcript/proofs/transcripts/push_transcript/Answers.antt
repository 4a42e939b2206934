use Rattle.std.proofs.Common.{List, ◌++◌, length, string_bytes, ap, ◌∙◌}
use Rattle.dispatcher.specs.Scripts.{trace_of}
use Rattle.dispatcher.specs.declared.entries.Entry.{Entry}
use Rattle.model.specs.declared.duties.Duty.{Duty}
use Rattle.sheet.specs.Sheets.{set_by}
use Rattle.transcript.proofs.Balanced.{written_rendered}
use Rattle.transcript.proofs.Scripts.{calls_in_trace}
use Rattle.transcript.specs.Renderings.{duty_lines, left_over, run_lines}
use Rattle.transcript.proofs.transcripts.push_transcript.Goals as goal

pub returns : goal.returns
returns c =
    let script = c.run_sheet.new.script.items in
    let start = string_bytes c.args.out.now in
    let duties = string_bytes c.push_duties.new.out in
    let (end, promise) = c.run_sheet.ensures.promise in
    record {
      trace = trace_of script;
      end = end;
      promise = promise;
      chosen = c.run_sheet.ensures.chosen;
      calls = calls_in_trace script ∙ c.run_sheet.ensures.calls;
      shows =
          written_rendered (set_by c.args.sheet).table (trace_of script) end promise.follows start duties _ c.requires.no_text
          (c.push_duties.ensures.bytes ∙ ap (λ (table : List Duty). start ++ duty_lines table (length table)) c.setting.ensures)
          (c.push_run.ensures ∙ ap (λ (es : List Entry). duties ++ run_lines (trace_of es) (left_over (trace_of es))) c.as_slice.ensures.value);
    }
