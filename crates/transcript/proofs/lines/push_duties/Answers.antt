use Rattle.std.proofs.Common.{ℕ, string_bytes, Result, arith, subst}
use Rattle.model.specs.declared.refusals.Refusal.{Refusal}
use Rattle.table.specs.Settings.{Responds, table_of}
use Rattle.transcript.proofs.Renderings.{duty_more}
use Rattle.transcript.proofs.lines.push_duties.Goals as goal

pub loop-row-preserved : goal.loop-row-preserved
loop-row-preserved c =
    let table = table_of c.args.setting.now in
    let row = c.loop-row.row in
    let start = string_bytes c.args.out.now in
    let responds =
    subst (λ (r : Result ℕ Refusal). Responds table row r) c.unwrap-response.ensures c.response.ensures in
    record {
      rows = duty_more table row c.unwrap-response.result start responds c.loop-row.invariant.rows c.push_duty.ensures.bytes;
      grown = omega (arith, c.push_duty.ensures.grown, c.loop-row.invariant.grown);
      kept = omega (arith, c.push_duty.ensures.kept, c.loop-row.invariant.kept);
    }
