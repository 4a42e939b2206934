-- The ordered list of a queue's slots: what it means, and what its free slots hold after each call.
use Rattle.std.specs.Prelude.{◌≡◌, ℕ, Bool, true, cond, List, [], ◌∷◌, drop, map, position, is_some, Some, None, Option, ◌==◌, nat_le, refl}
use Rattle.std.specs.List.{cons_option, find}
use Rattle.std.proofs.Common.{arith, ap, length-take, eq-eqb}
use Rattle.std.proofs.lemmas.List.{length-map}
use Rattle.model.specs.Histories.{Event, History, was_put, was_spent, was_taken}
use Rattle.model.specs.Queues.{Meaning, Sound, look, distinct, names_right}
use Rattle.model.specs.declared.errands.Errand.{Errand}
use Rattle.list.specs.Held.{held, capacity}
use Rattle.list.specs.declared.ordered.OrderedList.{OrderedList}
use Rattle.queue.specs.declared.slots.Slot.{Slot}

-- The errands of slots.
abbrev pub errands : List Slot → List Errand
errands = map (λ s. s.errand)

-- The number of the first errand.
abbrev pub first_number : List Errand → Option ℕ
first_number [] = None
first_number (e ∷ es) = Some e.number

-- A list means that its errands wait, that the first is named, and that there is room for as many errands as it was handed slots.
abbrev pub list_meaning : {R : _} → OrderedList Slot R → Meaning
list_meaning l =
    record { waiting = errands (held l); named = first_number (errands (held l)); places = capacity l }

-- The slot holds the errand of a number.
abbrev pub has_number : ℕ → Slot → Bool
has_number n s = s.errand.number == n

-- The place of the errand of a number, if it waits.
abbrev pub place_of : ℕ → List Slot → Option ℕ
place_of n = position (has_number n)

-- A slot whose errand has its last unit, if there is such a slot.
abbrev pub with_last_unit : Option Slot → Option Slot
with_last_unit None = None
with_last_unit (Some s) = cond (nat_le s.errand.units 1) (Some s) None

-- The free slots after an event, from those that held errands before it, the list, and those that were free. A put takes the first
-- free slot. The slot of an errand that is taken, or whose last unit is spent, is the first free slot from then on, as it was.
abbrev pub freed : List Slot → List Slot → Event → List Slot
freed list free (was_put e) = drop 1 free
freed list free (was_spent n) = cons_option (with_last_unit (find (has_number n) list)) free
freed list free (was_taken n) = cons_option (find (has_number n) list) free

-- The free slots after a call, from what it added to the history: one event, or none, where they stay as they are.
abbrev pub free_after : List Slot → List Slot → History → List Slot
free_after list free [] = free
free_after list free (x ∷ xs) = freed list free x

-- The number of the first errand is right to name.
first_named : (es : List Errand) → names_right es (first_number es) ≡ true
first_named [] = refl
first_named (e ∷ es) = ap (λ b. is_some (cond b (Some e) (look es e.number))) (eq-eqb e.number e.number refl)

-- What a list means is sound if no number is in it twice and every errand is within its limits.
pub list_sound : {R : _} (l : OrderedList Slot R) → distinct (errands (held l)) ≡ true → Sound (list_meaning l)
list_sound l once =
    record {
      each_once = once;
      few = omega (arith, length-map (held l) (λ s. s.errand), length-take l.count l.slots.now);
      names = first_named (errands (held l));
    }
