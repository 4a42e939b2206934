-- Every refusal has a code, and each a code of its own.
use Rattle.std.proofs.Common.{◌≡◌, ℕ, cond, ◌==◌, List, [], ◌∷◌, slice_index, sym, refl, ap, ◌∙◌}
use Rattle.model.specs.Refusals.{refusal_code}
use Rattle.model.specs.declared.refusals.Refusal.{Refusal}
use Rattle.model.specs.declared.refusals.Refusal.TheVariants.{NoSuchRow, DutyLimits, TableFull, Unschedulable, TooSoon, RowIdle, ClockEnded, ErrandLimits, AlreadyWaiting, NoPlace, NotWaiting}

pub refusal_code_some : (why : Refusal) → (n : ℕ) × (ns : List ℕ) × (refusal_code why ≡ n ∷ ns)
refusal_code_some NoSuchRow = (1, [], refl)
refusal_code_some DutyLimits = (2, [], refl)
refusal_code_some TableFull = (3, [], refl)
refusal_code_some (Unschedulable row) = (4, row ∷ [], refl)
refusal_code_some TooSoon = (5, [], refl)
refusal_code_some RowIdle = (6, [], refl)
refusal_code_some ClockEnded = (7, [], refl)
refusal_code_some ErrandLimits = (8, [], refl)
refusal_code_some AlreadyWaiting = (9, [], refl)
refusal_code_some NoPlace = (10, [], refl)
refusal_code_some NotWaiting = (11, [], refl)

-- Refusals with the same code are the same.
abbrev refusal_of_code : ℕ → ℕ → Refusal
refusal_of_code n row =
    cond (n == 1) NoSuchRow
    (cond (n == 2) DutyLimits
    (cond (n == 3) TableFull
    (cond (n == 4) (Unschedulable row)
    (cond (n == 5) TooSoon
    (cond (n == 6) RowIdle
    (cond (n == 7) ClockEnded
    (cond (n == 8) ErrandLimits
    (cond (n == 9) AlreadyWaiting
    (cond (n == 10) NoPlace NotWaiting)))))))))

refusal_of_its_code : (why : Refusal) → refusal_of_code (slice_index (refusal_code why) 0) (slice_index (refusal_code why) 1) ≡ why
refusal_of_its_code NoSuchRow = refl
refusal_of_its_code DutyLimits = refl
refusal_of_its_code TableFull = refl
refusal_of_its_code (Unschedulable row) = refl
refusal_of_its_code TooSoon = refl
refusal_of_its_code RowIdle = refl
refusal_of_its_code ClockEnded = refl
refusal_of_its_code ErrandLimits = refl
refusal_of_its_code AlreadyWaiting = refl
refusal_of_its_code NoPlace = refl
refusal_of_its_code NotWaiting = refl

pub refusal_code_apart : (why why' : Refusal) → refusal_code why ≡ refusal_code why' → why ≡ why'
refusal_code_apart why why' same =
    sym (refusal_of_its_code why) ∙ ap (λ ns. refusal_of_code (slice_index ns 0) (slice_index ns 1)) same ∙ refusal_of_its_code why'
