use Rattle.std.proofs.Common.{◌≡◌, ◌∷◌, [], Some, length, sym, ap, ◌∙◌, arith}
use Rattle.std.proofs.lemmas.List.Edits.{length-insert}
use Rattle.std.specs.List.{insert}
use Rattle.model.proofs.Admitted.{admitted_says}
use Rattle.model.specs.Table.{add_refusal, all_within, first_unschedulable, unschedulable_refusal}
use Rattle.table.proofs.Admission.{by_analysis, refused_leaves, within_inserted}
use Rattle.table.specs.Settings.{table_of}
use Rattle.table.proofs.settings.Setting.add.Goals as goal

pub invariant_of-grown-clause-within : goal.invariant_of-grown-clause-within
invariant_of-grown-clause-within c =
    let table = table_of c.args.self.now in
    ap all_within (c.deref.ensures.0 ∙ c.with_duty-duties.ensures)
    ∙ within_inserted table c.args.place c.args.duty (admitted_says table c.args.self.now.admits).within (sym c.if-not-within_limits.ensures)

pub returns-in-Some-clause-leaves : goal.returns-in-Some-clause-leaves
returns-in-Some-clause-leaves c =
    let table = table_of c.args.self.now in
    let first : first_unschedulable (insert table c.args.place c.args.duty) ≡ Some c.in-Some.row =
    sym (ap first_unschedulable (c.deref.ensures.0 ∙ c.with_duty-duties.ensures)) ∙ sym c.first_unschedulable.ensures ∙ c.in-Some.is in
    let refused : add_refusal table c.args.place c.args.duty ≡ 4 ∷ c.in-Some.row ∷ [] =
    by_analysis table c.args.place c.args.duty (omega arith) (sym c.if-not-within_limits.ensures)
    (omega (arith, c.deref.ensures.1, ap length (c.deref.ensures.0 ∙ c.with_duty-duties.ensures), length-insert table c.args.place c.args.duty (omega arith)))
    ∙ ap unschedulable_refusal first in
    sym (refused_leaves table c.args.place c.args.duty _ _ refused)
