use Rattle.std.proofs.Common.{◌≡◌, ◌≤◌, length, replicate, ap, ◌∙◌}
use Rattle.std.proofs.lemmas.List.{drop-replicate, take-replicate}
use Rattle.model.proofs.Admitted.{admitted_says}
use Rattle.model.proofs.Spare.{fresh_keeps}
use Rattle.model.specs.Kept.{kept}
use Rattle.model.specs.Machine.{fresh_work, with_rows}
use Rattle.model.specs.declared.rows.Row.TheVariants.{Idle}
use Rattle.table.specs.Settings.{table_of}
use Rattle.table.specs.declared.settings.Setting.{Setting}
use Rattle.workload.specs.Slots.{work_of}
use Rattle.workload.proofs.workloads.Workload.start.Goals as goal

-- The first of sixteen idle slots are the fresh rows.
fresh_slots : (s : Setting) → work_of (table_of s) 0 (replicate 16 (Idle 0)) ≡ fresh_work (table_of s)
fresh_slots s =
    let few : length (table_of s) ≤ 16 = (admitted_says (table_of s) s.admits).few in
    ap (with_rows (fresh_work (table_of s))) (take-replicate (length (table_of s)) 16 (Idle 0) few)

pub invariant_of-result : goal.invariant_of-result
invariant_of-result c =
    let s = c.args.setting in
    record {
      keeps = ap kept (fresh_slots s) ∙ (fresh_keeps (table_of s) s.admits).work_kept;
      unused = drop-replicate (length (table_of s)) 16 (Idle 0);
    }

pub returns-clause-work : goal.returns-clause-work
returns-clause-work c = fresh_slots c.args.setting
