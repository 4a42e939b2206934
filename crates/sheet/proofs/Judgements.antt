-- The first fault of two lists of faults, one behind the other.
use Rattle.std.proofs.Common.{◌≡◌, List, [], ◌∷◌, ◌++◌, Some, None, Ok, Err, Option, refl}
use Rattle.forms.specs.Faults.{Fault, judged}

module _ {X Y : Type 0} (x : X) (y : Y) where
  -- A fault of the first list counts.
  pub judged_before : (fs gs : List (Option Fault)) (f : Fault) → Err f ≡ judged fs x → Err f ≡ judged (fs ++ gs) y
  judged_before [] gs f e = cc
  judged_before (None ∷ fs) gs f e = judged_before fs gs f e
  judged_before (Some f' ∷ fs) gs f e = cc

  -- Where the first list has none, the second decides.
  pub judged_after : (fs gs : List (Option Fault)) (z : X) → Ok z ≡ judged fs x → judged (fs ++ gs) y ≡ judged gs y
  judged_after [] gs z e = refl
  judged_after (None ∷ fs) gs z e = judged_after fs gs z e
  judged_after (Some f ∷ fs) gs z e = cc

  -- And the value stands.
  pub judged_value : (fs : List (Option Fault)) (z : X) → Ok z ≡ judged fs x → z ≡ x
  judged_value [] z e = cc
  judged_value (None ∷ fs) z e = judged_value fs z e
  judged_value (Some f ∷ fs) z e = cc

module _ {X : Type 0} (x : X) where
  -- A value that stands has no fault in the second list.
  pub judged_rest : (fs gs : List (Option Fault)) (z : X) → Ok z ≡ judged (fs ++ gs) x → Ok z ≡ judged gs x
  judged_rest [] gs z e = e
  judged_rest (None ∷ fs) gs z e = judged_rest fs gs z e
  judged_rest (Some f ∷ fs) gs z e = cc

-- Where the value stands, no fault is there.
pub none_first : {X : Type 0} (fs : List (Option Fault)) (o : Option Fault) (x z : X) → Ok z ≡ judged (o ∷ fs) x → o ≡ None
none_first fs None x z e = refl
none_first fs (Some f) x z e = cc
