-- An accepted call to a row takes nothing from what any row has to spare: no row needs more after it, and no window
-- ends sooner. So it keeps what a running machine keeps.
use Rattle.std.proofs.Common.{◌≡◌, ℕ, pred, ◌<◌, ◌≤◌, Bool, true, false, cond, nat_lt, nat_le, List, [], ◌∷◌, length, slice_set, refl, ⊎_elim, arith, length-set}
use Rattle.std.proofs.lemmas.List.{get_or-set_same, get_or-set_other}
use Rattle.std.proofs.lemmas.Bool.{cases_Bool, cases_eq, cond_both, ltb-true, ltb-false, leb-false}
use Rattle.model.specs.Demand.{need, row_at, no_row}
use Rattle.model.specs.Kept.{Keeps}
use Rattle.model.specs.Machine.{Work, after_call, with_rows, row_refusal, row_after, call_refusal}
use Rattle.model.specs.Slack.{window_end}
use Rattle.model.specs.Table.{admitted, duty_at}
use Rattle.model.specs.declared.duties.Duty.{Duty}
use Rattle.model.specs.declared.rows.Row.{Row}
use Rattle.model.specs.declared.rows.Row.TheVariants.{Idle, Ready}
use Rattle.model.specs.declared.rows.RowCall.{RowCall}
use Rattle.model.specs.declared.rows.RowCall.TheVariants.{Release, Done, Tick}
use Rattle.model.proofs.Admitted.{Limits, admitted_limits}
use Rattle.model.proofs.Demand.{need_released, need_done, need_run}
use Rattle.model.proofs.Invariant.{RowNumbers, Numbers, end_at, Spares, kept_gives, kept_from}
use Rattle.model.proofs.Sums.{need_at, demand_le}

-- A cond that is [] where its first way is not: the test failed.
second_way : (b : Bool) (n : ℕ) → cond b (n ∷ []) [] ≡ [] → b ≡ false
second_way true n h = absurd (let z : ◌≡◌ {A = ℕ} 0 1 = cc in omega arith)
second_way false n h = refl

-- A release that is not refused does not come too soon.
pub release_allowed : (clock e : ℕ) → cond {A = List ℕ} (nat_lt clock e) (5 ∷ []) [] ≡ [] → e ≤ clock
release_allowed clock e h = ltb-false clock e (second_way (nat_lt clock e) 5 h)

-- A call to a row that is accepted: there is such a row, and its state does not refuse.
pub call_accepted :
    (w : Work) (i : ℕ) (call : RowCall)
    → call_refusal w i call ≡ [] → (i < length w.rows) × (row_refusal w.clock (row_at w.rows i) call ≡ [])
call_accepted w i call h =
    ⊎_elim
    (λ yes-row. (ltb-true i (length w.rows) yes-row, rw (yes-row, cond) at h))
    (λ no_such. absurd (let z : ◌≡◌ {A = ℕ} 0 1 = cc in omega arith))
    (cases_Bool (nat_lt i (length w.rows)))

-- A row before and after: its numbers stay kept, it needs no more, and its window ends no sooner.
pub record NeedsNoMore (clock : ℕ) (duty : Duty) (row after : Row) : Type 0 where
  pub numbers : RowNumbers clock duty after
  pub needs : (x : ℕ) → clock < x → need clock duty after x ≤ need clock duty row x
  pub ends : window_end clock duty row ≤ window_end clock duty after

-- What an accepted call does to a row whose window is open.
pub row_call_needs :
    (clock : ℕ) (duty : Duty) (row : Row) (call : RowCall)
    → Limits duty
    → RowNumbers clock duty row
    → clock < window_end clock duty row
    → row_refusal clock row call ≡ []
    → NeedsNoMore clock duty row (row_after duty clock row call)
row_call_needs clock duty (Idle e) Release limits numbers ahead accepted =
    let allowed = release_allowed clock e accepted in
    record {
      numbers = (limits.cost_some, omega arith, omega arith, omega arith);
      needs = λ x later. omega (arith, need_released clock duty e x allowed later (omega (arith, limits)));
      ends = omega arith;
    }
row_call_needs clock duty (Ready c d e) Release limits numbers ahead accepted =
    absurd (omega (arith, release_allowed clock e accepted, limits, numbers))
row_call_needs clock duty (Idle e) Done limits numbers ahead accepted = absurd (let z : ◌≡◌ {A = ℕ} 0 1 = cc in omega arith)
row_call_needs clock duty (Ready c d e) Done limits numbers ahead accepted =
    record {
      numbers = numbers.3;
      needs = λ x later. need_done clock duty c d e x;
      ends = omega (arith, limits, numbers);
    }
row_call_needs clock duty (Idle e) Tick limits numbers ahead accepted =
    record { numbers = numbers; needs = λ x later. omega arith; ends = omega arith }
row_call_needs clock duty (Ready c d e) Tick limits numbers ahead accepted =
    record {
      numbers =
          cond_both (nat_le c 1) (Idle e) (Ready (pred c) d e) (RowNumbers clock duty)
          (λ last. numbers.3)
          (λ more. (omega (arith, leb-false c 1 more), omega (arith, numbers.1), numbers.2, numbers.3));
      needs = λ x later. omega (arith, need_run clock clock duty c d e x numbers.0);
      ends =
          cond_both (nat_le c 1) (Idle e) (Ready (pred c) d e) (λ row. window_end clock duty (Ready c d e) ≤ window_end clock duty row)
          (λ last. omega (arith, limits, numbers))
          (λ more. omega arith);
    }

-- What holds of the new row and of every other holds of each row once the new one is set.
pub at_set :
    (P : ℕ → Row → Type 0) (rows : List Row) (k : ℕ) (row : Row)
    → k < length rows
    → P k row
    → ((i : ℕ) → (i ≡ k → ⊥) → P i (row_at rows i))
    → (i : ℕ) → P i (row_at (slice_set rows k row) i)
at_set P rows k row short new others i =
    ⊎_elim
    (λ same. rw same (rw (get_or-set_same rows k row no_row short) new))
    (λ other. rw (get_or-set_other rows k i row no_row other) (others i other))
    (cases_eq i k)

-- A row that has anything to spare has an open window.
pub spares_open : (w : Work) (i r : ℕ) → Spares w.clock w i r → w.clock < end_at w.clock w i
spares_open w i r (x, ahead, (before_end, met)) = omega arith

-- Row k is set to one that needs no more.
module _
    (w : Work) (numbers : Numbers w) (k : ℕ) (row : Row) (there : k < length w.rows)
    (no_more : NeedsNoMore w.clock (duty_at w.table k) (row_at w.rows k) row) where
  abbrev after : Work
  after = with_rows w (slice_set w.rows k row)

  -- Each row's numbers stay kept,
  pub set_numbers : Numbers after
  set_numbers =
      record {
        same_length = omega (arith, length-set w.rows k row, numbers.same_length);
        each =
            at_set (λ i r. i < length w.table → RowNumbers w.clock (duty_at w.table i) r) w.rows k row there
            (λ _. no_more.numbers) (λ i other. numbers.each i);
      }

  -- no row needs more, and no window ends sooner,
  pub set_need : (x : ℕ) → w.clock < x → (j : ℕ) → need_at w.clock w.table after.rows x j ≤ need_at w.clock w.table w.rows x j
  set_need x ahead =
      at_set (λ j r. need w.clock (duty_at w.table j) r x ≤ need_at w.clock w.table w.rows x j) w.rows k row there
      (no_more.needs x ahead) (λ j other. omega arith)

  pub set_end : (j : ℕ) → end_at w.clock w j ≤ end_at w.clock after j
  set_end =
      at_set (λ j r. end_at w.clock w j ≤ window_end w.clock (duty_at w.table j) r) w.rows k row there
      no_more.ends (λ j other. omega arith)

  -- so every row has still what it had to spare.
  set_spares : (i r : ℕ) → i < length w.table → Spares w.clock w i r → Spares w.clock after i r
  set_spares i r inside (x, ahead, (before_end, met)) =
      let less =
      demand_le w.table i inside w.clock w.clock x w.rows after.rows numbers.same_length set_numbers.same_length
      (λ j h. set_need x ahead j) in
      (x, ahead, (omega (arith, set_end i), omega arith))

-- An accepted call to row k, whose window is open.
module _
    (w : Work) (ok : admitted w.table ≡ true) (numbers : Numbers w) (k : ℕ) (call : RowCall)
    (ahead : w.clock < end_at w.clock w k) (accepted : call_refusal w k call ≡ []) where
  pub call_there : k < length w.rows
  call_there = (call_accepted w k call accepted).0

  -- The row needs no more,
  pub call_needs : NeedsNoMore w.clock (duty_at w.table k) (row_at w.rows k) (row_after (duty_at w.table k) w.clock (row_at w.rows k) call)
  call_needs =
      let inside : k < length w.table = omega (arith, call_there, numbers.same_length) in
      row_call_needs w.clock (duty_at w.table k) (row_at w.rows k) call
      (admitted_limits w.table ok k inside) (numbers.each k inside) ahead (call_accepted w k call accepted).1

  pub call_numbers : Numbers (after_call w k call)
  call_numbers = set_numbers w numbers k (row_after (duty_at w.table k) w.clock (row_at w.rows k) call) call_there call_needs

  -- and each row keeps what it had to spare.
  pub call_spares : (i r : ℕ) → i < length w.table → Spares w.clock w i r → Spares w.clock (after_call w k call) i r
  call_spares = set_spares w numbers k (row_after (duty_at w.table k) w.clock (row_at w.rows k) call) call_there call_needs

-- So an accepted call keeps the invariant.
pub call_keeps : (w : Work) (k : ℕ) (call : RowCall) → Keeps w → call_refusal w k call ≡ [] → Keeps (after_call w k call)
call_keeps w k call keeps accepted =
    let ok = keeps.table_admitted in
    let keeping = kept_gives 0 w keeps.work_kept in
    let there = (call_accepted w k call accepted).0 in
    let ahead = spares_open w k 0 (keeping.spares k (omega (arith, keeping.numbers.same_length))) in
    record {
      table_admitted = ok;
      work_kept =
          kept_from 0 (after_call w k call)
          (record {
            numbers = call_numbers w ok keeping.numbers k call ahead accepted;
            spares = λ i inside. call_spares w ok keeping.numbers k call ahead accepted i 0 inside (keeping.spares i inside);
          });
    }
