-- The slots of a list after a unit was spent, and without the errand of a number.
use Rattle.std.proofs.Common.{ℕ, ◌-◌, cond, eqb, leb, List, [], ◌∷◌, Some, None, Option}
use Rattle.queue.specs.Slots.{with_units}
use Rattle.queue.specs.declared.slots.Slot.{Slot}
use Rattle.queue.proofs.AtNumber.{at_number}

-- The slot with one unit less, or none where that was its last.
abbrev pub less_slot : Slot → Option Slot
less_slot s = cond (leb s.errand.units 1) None (Some (with_units s (s.errand.units - 1)))

-- After a unit was spent on the first: it has one less, or is gone where that was its last.
abbrev pub first_spent : List Slot → List Slot
first_spent [] = []
first_spent (s ∷ ss) = cond (leb s.errand.units 1) ss (with_units s (s.errand.units - 1) ∷ ss)

-- The slots without the first of a number.
abbrev pub without : ℕ → List Slot → List Slot
without n [] = []
without n (s ∷ ss) = cond (eqb s.errand.number n) ss (s ∷ without n ss)

-- The slot of the number n is gone.
abbrev pub taken_slot : ℕ → Slot → Option Slot
taken_slot = at_number (λ (s : Slot). s.errand.number) (λ _. None)

-- The slot of the number n has one unit less, and is gone where that was its last.
abbrev pub spent_slot : ℕ → Slot → Option Slot
spent_slot = at_number (λ (s : Slot). s.errand.number) less_slot
