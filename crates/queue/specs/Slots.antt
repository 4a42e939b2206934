-- Slots as they are made for an errand that is put, and with other units left.
use Rattle.std.specs.Prelude.{◌≡◌, ℕ, ◌≤◌, true, false, ◌&&◌, [], ◌∷◌, Ok, Err, Result, nat_le}
use Rattle.std.proofs.Common.{leb-true}
use Rattle.std.proofs.lemmas.Bool.{and_parts}
use Rattle.model.specs.Queues.{errand_within}
use Rattle.model.specs.Refusals.{refusal_code}
use Rattle.model.specs.declared.errands.Errand.{Errand}
use Rattle.model.specs.declared.refusals.Refusal.{Refusal}
use Rattle.queue.specs.declared.slots.Slot.{Slot}

-- The slot of an errand, rated by a worth for so many units.
pub record HoldsErrand (e : Errand) (worth units : ℕ) (s : Slot) : Type 0 where
  pub errand : s.errand ≡ e
  pub worth_put : s.rating.worth ≡ worth
  pub units_put : s.rating.units ≡ units

-- A slot is made, or refused 8 where the errand breaks its limits.
abbrev pub Made : Errand → ℕ → ℕ → Result Slot Refusal → Type 0
Made e worth units (Ok s) = (errand_within e ≡ true) × HoldsErrand e worth units s
Made e worth units (Err why) = (errand_within e ≡ false) × (refusal_code why ≡ 8 ∷ [])

-- The slot with other units left. The rating stays.
abbrev pub with_units : Slot → ℕ → Slot
with_units s units =
    record {
      errand = record { number = s.errand.number; units = units; worth = s.errand.worth };
      rating = s.rating;
    }

-- An errand within its limits has a unit.
pub some_units : (e : Errand) → errand_within e ≡ true → 1 ≤ e.units
some_units e h =
    let (sizes, worth) = and_parts (nat_le 1 e.units && nat_le e.units 4096) (nat_le e.worth 65535) h in
    let (some, most) = and_parts (nat_le 1 e.units) (nat_le e.units 4096) sizes in
    leb-true 1 e.units some
