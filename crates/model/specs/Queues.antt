-- What a queue means: which errands wait, which one it names, and how many places it has. Meanings are
-- compared by looking numbers up, so the order in which the errands are listed says nothing.
use Rattle.std.specs.Prelude.{◌≡◌, ℕ, pred, ◌≤◌, Bool, true, false, cond, not, ◌&&◌, List, [], ◌∷◌, length, is_some, Some, None, Ok, Err, Option, Result, ◌==◌, ◌≢◌, nat_le}
use Rattle.model.specs.Refusals.{refusal_code}
use Rattle.model.specs.declared.errands.Errand.{Errand}
use Rattle.model.specs.declared.refusals.Refusal.{Refusal}

-- The meaning of a queue: the errands that wait, each with its units left and its worth; the number of the one
-- that it names; and its places, fixed for life.
pub record Meaning : Type 0 where
  pub waiting : List Errand
  pub named : Option ℕ
  pub places : ℕ

-- The errand of a number among those that wait.
abbrev pub look : List Errand → ℕ → Option Errand
look [] n = None
look (e ∷ es) n = cond (e.number == n) (Some e) (look es n)

-- Its units left, 0 where the number does not wait.
abbrev pub units_in : List Errand → ℕ → ℕ
units_in es n = elim (look es n) [ None ↦ 0 | Some e ↦ e.units ]

-- 1 to 4,096 units, a worth of at most 65,535.
abbrev pub errand_within : Errand → Bool
errand_within e = nat_le 1 e.units && nat_le e.units 4096 && nat_le e.worth 65535

-- Every errand is within its limits, and no number waits twice.
abbrev pub distinct : List Errand → Bool
distinct [] = true
distinct (e ∷ es) = errand_within e && not (is_some (look es e.number)) && distinct es

-- A queue names some errand exactly when one waits, and then one that waits.
abbrev pub names_right : List Errand → Option ℕ → Bool
names_right [] None = true
names_right (e ∷ es) (Some n) = is_some (look (e ∷ es) n)
names_right es named = false

-- The meanings that a queue can have.
pub record Sound (m : Meaning) : Type 0 where
  pub each_once : distinct m.waiting ≡ true
  pub few : length m.waiting ≤ m.places
  pub names : names_right m.waiting m.named ≡ true

-- The errand with one unit less, or none where that was its last.
abbrev pub one_less : Errand → Option Errand
one_less e =
    cond (nat_le e.units 1) None
    (Some (record { number = e.number; units = pred e.units; worth = e.worth }))

-- From m to m' the number n alone changed, and looks up as `found`; the places stay.
pub record Changes (m : Meaning) (n : ℕ) (found : Option Errand) (m' : Meaning) : Type 0 where
  pub here : look m'.waiting n ≡ found
  pub others : (k : ℕ) → (k ≢ n) → look m'.waiting k ≡ look m.waiting k
  pub places_stay : m'.places ≡ m.places
  pub sound : Sound m'

-- What refuses a put, the smallest number first: 8, limits broken; 9, the number waits already; 10, as many
-- errands wait as there are places.
abbrev pub put_refusal : Meaning → Errand → List ℕ
put_refusal m e =
    cond (not (errand_within e)) (8 ∷ [])
    (cond (is_some (look m.waiting e.number)) (9 ∷ [])
    (cond (nat_le m.places (length m.waiting)) (10 ∷ []) []))

-- Put: refused as above with nothing changed, or the errand waits as given and every other as before.
abbrev pub Put : {X : Type 0} → Meaning → Errand → Result X Refusal → Meaning → Type 0
Put m e (Ok x) m' = (put_refusal m e ≡ []) × Changes m e.number (Some e) m'
Put m e (Err why) m' = (put_refusal m e ≡ refusal_code why) × (m' ≡ m)

-- Spend: none where nothing is named, with nothing changed; else the number named, which has one unit less.
abbrev pub Spend : Meaning → Option ℕ → Meaning → Type 0
Spend m None m' = (m.named ≡ None) × (m' ≡ m)
Spend m (Some n) m' =
    (m.named ≡ Some n) × ((e : Errand) × (look m.waiting n ≡ Some e) × Changes m n (one_less e) m')

-- Take: 11 where the number does not wait, with nothing changed; else the units that it had left, and it waits
-- no more.
abbrev pub Take : Meaning → ℕ → Result ℕ Refusal → Meaning → Type 0
Take m n (Ok units) m' = ((e : Errand) × (look m.waiting n ≡ Some e) × (units ≡ e.units) × Changes m n None m')
Take m n (Err why) m' = (look m.waiting n ≡ None) × (refusal_code why ≡ 11 ∷ []) × (m' ≡ m)
