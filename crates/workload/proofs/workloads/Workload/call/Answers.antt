use Rattle.std.proofs.Common.{◌≡◌, ℕ, ◌<◌, List, length, get_or, set, refl, ap, ◌∙◌, arith}
use Rattle.std.proofs.lemmas.List.{drop-set-lt}
use Rattle.model.specs.Demand.{no_row}
use Rattle.model.specs.Kept.{kept}
use Rattle.model.specs.Table.{duty_at}
use Rattle.model.specs.declared.duties.Duty.{Duty}
use Rattle.model.specs.declared.rows.Row.{Row}
use Rattle.model.specs.declared.rows.RowCall.{RowCall}
use Rattle.table.specs.Settings.{table_of}
use Rattle.workload.proofs.RowCalls.{slot_call_keeps, slot_called, slots_after}
use Rattle.workload.specs.Slots.{row_called, work_of}
use Rattle.workload.specs.declared.workloads.Workload.{Workload}
use Rattle.workload.proofs.workloads.Workload.call.Goals as goal

-- The slots that the call leaves, by the table's own duty.
left : (w : Workload) (i : ℕ) (inside : i < length (table_of w.setting)) (call : RowCall) (duty : Duty) (row : Row)
    → duty ≡ duty_at (table_of w.setting) i
    → row ≡ row_called duty w.clock (get_or w.rows i no_row) call
    → set w.rows i row ≡ slots_after w i call inside
left w i inside call duty row is leaves =
    ap (set w.rows i) (leaves ∙ ap (λ (d : Duty). row_called d w.clock (get_or w.rows i no_row) call) is)

pub invariant_of-self : goal.invariant_of-self
invariant_of-self c =
    let w = c.args.self.now in
    let table = table_of w.setting in
    let found = c.in-Some.ensures.lookup.3 in
    let inside : c.args.row < length table = omega (arith, found.0, ap length c.duties.ensures) in
    let duty = found.1 _ ∙ ap (λ (duties : List Duty). duty_at duties c.args.row) c.duties.ensures in
    record {
      keeps = ap (λ slots. kept (work_of table w.clock slots)) (left w c.args.row inside c.args.call _ _ duty c.apply.ensures.leaves)
          ∙ (slot_call_keeps w c.args.row c.args.call inside).work_kept;
      unused = drop-set-lt (length table) w.rows c.args.row _ inside ∙ w.unused;
    }

pub returns : goal.returns
returns c =
    let w = c.args.self.now in
    let found = c.in-Some.ensures.lookup.3 in
    let inside : c.args.row < length (table_of w.setting) = omega (arith, found.0, ap length c.duties.ensures) in
    let duty = found.1 _ ∙ ap (λ (duties : List Duty). duty_at duties c.args.row) c.duties.ensures in
    let (called, stays) =
    slot_called w _ c.args.row c.args.call c.apply.result
    (record {
      inside = inside;
      answers = c.apply.ensures.answers;
      left = left w c.args.row inside c.args.call _ _ duty c.apply.ensures.leaves;
      setting = refl;
      clock = refl;
    }) in
    record { step = called; setting = refl; refused = stays }
