-- The kept invariant as facts about each row, in place of tests: proofs take it apart and put it together here. What
-- is said of the demand is said for any number r of ticks to spare; the invariant is the case r = 0.
use Rattle.std.proofs.Common.{◌≡◌, ℕ, zero, suc, ◌+◌, ◌-◌, ◌<◌, ◌≤◌, true, List, [], ◌∷◌, length, refl, ⊎_elim, arith}
use Rattle.std.proofs.lemmas.Bool.{and_parts, and_from, leb-true, le-leb, cases_order}
use Rattle.std.proofs.lemmas.Bool.Decides.{nat_tests}
use Rattle.model.specs.Demand.{demand_at, row_at}
use Rattle.model.specs.Kept.{row_kept, rows_kept, covers, has_spare, all_spare, kept_with}
use Rattle.model.specs.Machine.{Work}
use Rattle.model.specs.Slack.{window, window_end}
use Rattle.model.specs.Table.{duty_at}
use Rattle.model.specs.declared.duties.Duty.{Duty}
use Rattle.model.specs.declared.rows.Row.{Row}
use Rattle.model.specs.declared.rows.Row.TheVariants.{Idle, Ready}
use Rattle.model.proofs.Searches.{search_finds, search_succeeds}

-- A row's own numbers.
abbrev pub RowNumbers : ℕ → Duty → Row → Type 0
RowNumbers clock duty (Idle e) = e ≤ clock + duty.separation
RowNumbers clock duty (Ready c d e) =
    (1 ≤ c) × (c ≤ duty.cost) × (d + duty.separation ≡ e + duty.deadline) × (e ≤ clock + duty.separation)

pub row_kept_gives : (clock : ℕ) (duty : Duty) (row : Row) → row_kept clock duty row ≡ true → RowNumbers clock duty row
row_kept_gives clock duty (Idle e) h = leb-true e (clock + duty.separation) h
row_kept_gives clock duty (Ready c d e) h =
    (grind (arith, nat_tests), grind (arith, nat_tests), grind (arith, nat_tests), grind (arith, nat_tests))

pub row_kept_from : (clock : ℕ) (duty : Duty) (row : Row) → RowNumbers clock duty row → row_kept clock duty row ≡ true
row_kept_from clock duty (Idle e) h = le-leb e (clock + duty.separation) h
row_kept_from clock duty (Ready c d e) h = grind (arith, nat_tests)

-- There is a state for each row, with its numbers kept.
pub record Numbers (w : Work) : Type 0 where
  pub same_length : length w.rows ≡ length w.table
  pub each : (i : ℕ) → i < length w.table → RowNumbers w.clock (duty_at w.table i) (row_at w.rows i)

-- The same of lists.
abbrev NumbersOf : ℕ → List Duty → List Row → Type 0
NumbersOf clock table rows = Numbers (record { table = table; clock = clock; rows = rows })

pub rows_kept_gives : (clock : ℕ) (table : List Duty) (rows : List Row) → rows_kept clock table rows ≡ true → NumbersOf clock table rows
rows_kept_gives clock [] [] h = record { same_length = refl; each = λ i short. absurd (omega arith) }
rows_kept_gives clock [] (row ∷ rows) h = absurd (let z : ◌≡◌ {A = ℕ} 0 1 = cc in omega arith)
rows_kept_gives clock (duty ∷ table) [] h = absurd (let z : ◌≡◌ {A = ℕ} 0 1 = cc in omega arith)
rows_kept_gives clock (duty ∷ table) (row ∷ rows) h =
    let (first, others) = and_parts (row_kept clock duty row) (rows_kept clock table rows) h in
    let rest = rows_kept_gives clock table rows others in
    record {
      same_length = omega (arith, rest.same_length);
      each = elim [ zero ↦ λ short. row_kept_gives clock duty row first | suc i ↦ λ short. rest.each i (omega arith) ];
    }

pub rows_kept_from : (clock : ℕ) (table : List Duty) (rows : List Row) → NumbersOf clock table rows → rows_kept clock table rows ≡ true
rows_kept_from clock [] [] h = refl
rows_kept_from clock [] (row ∷ rows) h = absurd (omega (arith, h.same_length))
rows_kept_from clock (duty ∷ table) [] h = absurd (omega (arith, h.same_length))
rows_kept_from clock (duty ∷ table) (row ∷ rows) h =
    and_from (row_kept clock duty row) (rows_kept clock table rows)
    (row_kept_from clock duty row (h.each 0 (omega arith)))
    (rows_kept_from clock table rows
    (record { same_length = omega (arith, h.same_length); each = λ i short. h.each (suc i) (omega arith) }))

-- The clock at which row i's window ends, where idle rows may be released from the clock `from` on.
abbrev pub end_at : ℕ → Work → ℕ → ℕ
end_at from w i = window_end from (duty_at w.table i) (row_at w.rows i)

-- By the clock x, within row i's window, the demand of row i up to x can be met, with r ticks to spare.
abbrev pub Met : ℕ → Work → ℕ → ℕ → ℕ → Type 0
Met from w i r x = (x ≤ end_at from w i) × (demand_at from w.table w.rows i x + w.clock + r ≤ x)

-- Row i has r ticks to spare: its demand can so be met by some clock that lies ahead. With `from` the clock itself
-- this is the early reckoning, with the clock after it the late one.
abbrev pub Spares : ℕ → Work → ℕ → ℕ → Type 0
Spares from w i r = (x : ℕ) × (w.clock < x) × Met from w i r x

pub has_spare_gives : (w : Work) (i r : ℕ) → has_spare w i r ≡ true → Spares w.clock w i r
has_spare_gives w i r h =
    let (ticks, found) = search_finds (covers w i r) 1 (window w.clock w.clock w.table w.rows i) h in
    let enough = leb-true (demand_at w.clock w.table w.rows i (w.clock + ticks) + r) ticks found.passed in
    (w.clock + ticks, omega (arith, found.above), (omega (arith, found.above, found.below), omega arith))

pub has_spare_from : (w : Work) (i r : ℕ) → Spares w.clock w i r → has_spare w i r ≡ true
has_spare_from w i r (x, ahead, (inside, met)) =
    let at : w.clock + (x - w.clock) ≡ x = omega arith in
    search_succeeds (covers w i r) 1 (window w.clock w.clock w.table w.rows i) (x - w.clock) (omega arith) (omega arith)
    (le-leb (demand_at w.clock w.table w.rows i (w.clock + (x - w.clock)) + r) (x - w.clock) (rw at (omega arith)))

pub all_spare_gives : (w : Work) (r n : ℕ) → all_spare w r n ≡ true → (i : ℕ) → i < n → Spares w.clock w i r
all_spare_gives w r zero h i short = absurd (omega arith)
all_spare_gives w r (suc n) h i short =
    let (others, last) = and_parts (all_spare w r n) (has_spare w n r) h in
    ⊎_elim
    (λ same. rw same (has_spare_gives w n r last))
    (⊎_elim (λ less. all_spare_gives w r n others i less) (λ more. absurd (omega arith)))
    (cases_order i n)

pub all_spare_from : (w : Work) (r n : ℕ) → ((i : ℕ) → i < n → Spares w.clock w i r) → all_spare w r n ≡ true
all_spare_from w r zero all = refl
all_spare_from w r (suc n) all =
    and_from (all_spare w r n) (has_spare w n r)
    (all_spare_from w r n (λ i short. all i (omega arith)))
    (has_spare_from w n r (all n (omega arith)))

-- What `kept_with` says.
pub record Keeping (r : ℕ) (w : Work) : Type 0 where
  pub numbers : Numbers w
  pub spares : (i : ℕ) → i < length w.table → Spares w.clock w i r

pub kept_gives : (r : ℕ) (w : Work) → kept_with r w ≡ true → Keeping r w
kept_gives r w h =
    let (own, all) = and_parts (rows_kept w.clock w.table w.rows) (all_spare w r (length w.table)) h in
    record { numbers = rows_kept_gives w.clock w.table w.rows own; spares = all_spare_gives w r (length w.table) all }

pub kept_from : (r : ℕ) (w : Work) → Keeping r w → kept_with r w ≡ true
kept_from r w h =
    and_from (rows_kept w.clock w.table w.rows) (all_spare w r (length w.table))
    (rows_kept_from w.clock w.table w.rows h.numbers)
    (all_spare_from w r (length w.table) h.spares)
