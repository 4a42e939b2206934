-- A call to one row: what it writes in the slots is what the model's call leaves of the work, and the work is still kept.
use Rattle.std.proofs.Common.{◌≡◌, ℕ, ◌<◌, List, [], ◌∷◌, length, get_or, set, OnErr, Ok, Err, Result, sym, refl, ap, ◌∙◌, arith, subst}
use Rattle.std.proofs.lemmas.List.{get_or-take, set-get_or}
use Rattle.std.proofs.lemmas.Bool.{cond-true, lt-ltb}
use denote.Struct.Record.{values_one}
use Rattle.model.proofs.Invariant.{kept_gives}
use Rattle.model.proofs.RefusalCodes.{refusal_code_some}
use Rattle.model.proofs.RowCalls.{call_keeps}
use Rattle.model.proofs.Slots.{take_set}
use Rattle.model.specs.Demand.{no_row, row_at}
use Rattle.model.specs.Kept.{Keeps}
use Rattle.model.specs.Machine.{RowCalled, Work, after_call, call_refusal, row_refusal, with_rows}
use Rattle.model.specs.Refusals.{refusal}
use Rattle.model.specs.Table.{duty_at}
use Rattle.model.specs.declared.duties.Duty.{Duty}
use Rattle.model.specs.declared.refusals.Refusal.{Refusal}
use Rattle.model.specs.declared.rows.Row.{Row}
use Rattle.model.specs.declared.rows.RowCall.{RowCall}
use Rattle.model.specs.contracts.rows.Row.{the_row}
use Rattle.table.specs.Settings.{table_of}
use Rattle.table.specs.contracts.settings.Setting.{the_row as the_setting}
use Rattle.workload.specs.Slots.{row_called, work_of}
use Rattle.workload.specs.Workloads.{work_in}
use Rattle.workload.specs.contracts.workloads.Workload.{struct, the_propositions}
use Rattle.workload.specs.declared.workloads.Workload.{Workload}

-- What a running workload keeps.
pub keeps_in : (w : Workload) → Keeps (work_in w)
keeps_in w = record { table_admitted = w.setting.admits; work_kept = w.keeps }

module _ (w : Workload) (i : ℕ) (call : RowCall) (inside : i < length (table_of w.setting)) where
  abbrev table : List Duty
  table = table_of w.setting

  abbrev work : Work
  work = work_in w

  -- The slot before the call, and all slots after it.
  abbrev before : Row
  before = get_or w.rows i no_row

  abbrev pub slots_after : List Row
  slots_after = set w.rows i (row_called (duty_at table i) w.clock before call)

  abbrev after : Work
  after = work_of table w.clock slots_after

  read : before ≡ row_at work.rows i
  read = sym (get_or-take (length table) w.rows i no_row inside)

  written : after.rows ≡ set work.rows i (row_called (duty_at table i) w.clock (row_at work.rows i) call)
  written =
      take_set w.rows (length table) i _ ∙ ap (λ (row : Row). set work.rows i (row_called (duty_at table i) w.clock row call)) read

  pub row_answers : call_refusal work i call ≡ row_refusal w.clock before call
  row_answers =
      let there : i < length work.rows = omega (arith, (kept_gives 0 work w.keeps).numbers.same_length) in
      cond-true _ _ _ (lt-ltb _ _ there) ∙ ap (λ (row : Row). row_refusal w.clock row call) (sym read)

  refused_by : (why : List ℕ) → call_refusal work i call ≡ why → row_refusal w.clock (row_at work.rows i) call ≡ why
  refused_by why e = ap (λ (row : Row). row_refusal w.clock row call) (sym read) ∙ sym row_answers ∙ e

  pub accepted_work : call_refusal work i call ≡ [] → after ≡ after_call work i call
  accepted_work e = ap (with_rows work) (written ∙ ap (set work.rows i) (rw (refused_by [] e, row_called)))

  pub refused_work : (n : ℕ) (ns : List ℕ) → call_refusal work i call ≡ n ∷ ns → after ≡ work
  refused_work n ns e =
      let same : row_called (duty_at table i) w.clock (row_at work.rows i) call ≡ row_at work.rows i = rw (refused_by (n ∷ ns) e, row_called) in
      ap (with_rows work) (written ∙ ap (set work.rows i) same ∙ set-get_or work.rows i no_row)

  after_keeps : (why : List ℕ) → call_refusal work i call ≡ why → Keeps after
  after_keeps [] e = subst Keeps (sym (accepted_work e)) (call_keeps work i call (keeps_in w) e)
  after_keeps (n ∷ ns) e = subst Keeps (sym (refused_work n ns e)) (keeps_in w)

  pub slot_call_keeps : Keeps after
  slot_call_keeps = after_keeps (call_refusal work i call) refl

-- A workload is its setting, the sixteen rows and its clock; what else it keeps are facts.
pub same_workload : (w w' : Workload) → w'.setting ≡ w.setting → w'.rows ≡ w.rows → w'.clock ≡ w.clock → w' ≡ w
same_workload w w' setting slots clock =
    values_one struct (the_propositions the_setting.coded the_row.coded) w' w (λ i. (setting i, (slots i, (clock i, tt))))

-- What a call to row i answers, and that it writes this row's slot alone.
pub record SlotCalled {X : Type 0} (w : Workload) (i : ℕ) (call : RowCall) (r : Result X Refusal) (w' : Workload) : Type 0 where
  pub inside : i < length (table_of w.setting)
  pub answers : refusal r ≡ row_refusal w.clock (get_or w.rows i no_row) call
  pub left : w'.rows ≡ slots_after w i call inside
  pub setting : w'.setting ≡ w.setting
  pub clock : w'.clock ≡ w.clock

-- So it is the model's call, and leaves the workload as it was where it is refused.
pub slot_called : {X : Type 0} (w w' : Workload) (i : ℕ) (call : RowCall) (r : Result X Refusal)
    → SlotCalled w i call r w' → RowCalled (work_in w) i call r (work_in w') × OnErr r (w' ≡ w)
slot_called w w' i call (Ok x) called =
    let free = row_answers w i call called.inside ∙ sym called.answers in
    let same : work_in w' ≡ work_of (table_of w.setting) w.clock (slots_after w i call called.inside) =
    rw (called.setting, called.clock, called.left) refl in
    ((free, same ∙ accepted_work w i call called.inside free), tt)
slot_called w w' i call (Err why) called =
    let (n, ns, some) = refusal_code_some why in
    let barred : row_refusal w.clock (get_or w.rows i no_row) call ≡ n ∷ ns = sym called.answers ∙ some in
    let same : row_called (duty_at (table_of w.setting) i) w.clock (get_or w.rows i no_row) call ≡ get_or w.rows i no_row = rw (barred, row_called) in
    let stays = same_workload w w' called.setting (called.left ∙ ap (set w.rows i) same ∙ set-get_or w.rows i no_row) called.clock in
    ((row_answers w i call called.inside ∙ sym called.answers, ap work_in stays), stays)
