use Rattle.std.proofs.Common.{◌≡◌, ℕ, true, List, length, is_some, Some, None, Option, sym, refl, ap, subst, ◌∙◌, ⊎_elim}
use Rattle.std.proofs.lemmas.Bool.{cases_lt}
use Rattle.std.specs.Option.{ok_or}
use Rattle.model.proofs.Admitted.{has_response}
use Rattle.model.specs.Table.{admitted, response}
use Rattle.model.specs.declared.duties.Duty.{Duty}
use Rattle.model.specs.declared.refusals.Refusal.TheVariants.{NoSuchRow}
use Rattle.table.specs.Settings.{Responds, table_of}
use Rattle.table.proofs.settings.Setting.response.Goals as goal

-- Only a row that is not there lacks a response time.
responds : (table : List Duty) (row : ℕ) (o : Option ℕ) → admitted table ≡ true → o ≡ response table row
    → Responds table row (ok_or o NoSuchRow)
responds table row (Some w) ok e = sym e
responds table row None ok e =
    ⊎_elim (λ there. let none : is_some (response table row) ≡ true = has_response table ok row there in cc)
    (λ beyond. (beyond, refl)) (cases_lt row (length table))

pub returns : goal.returns
returns c =
    let table = table_of c.args.self.now in
    subst (Responds table c.args.row) (sym c.ok_or.ensures.value)
    (responds table c.args.row _ c.args.self.now.admits
    (c.response_time.ensures ∙ ap (λ (duties : List Duty). response duties c.args.row) c.duties.ensures))
