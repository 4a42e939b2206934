-- Bytes that may stand one after the other, by pairs.
use Rattle.std.proofs.Common.{◌≡◌, ℕ, Bool, ◌&&◌, List, [], ◌∷◌, drop, refl, ap}
use Rattle.std.specs.List.{list_all, zip}
use Rattle.forms.specs.Forms.{may_follow, spelled, spelled_out}

after : (a : ℕ) (bs : List ℕ) → list_all (λ (p : ℕ × ℕ). may_follow p.0 p.1) (zip (a ∷ bs) bs) ≡ spelled a bs
after a [] = refl
after a (b ∷ bs) = ap (λ (rest : Bool). may_follow a b && rest) (after b bs)

pub spelled_by_pairs : (bs : List ℕ) → list_all (λ (p : ℕ × ℕ). may_follow p.0 p.1) (zip bs (drop 1 bs)) ≡ spelled_out bs
spelled_by_pairs [] = refl
spelled_by_pairs (b ∷ bs) = after b bs
