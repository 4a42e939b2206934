-- Of faults in their order, the first that is there counts: it counts before every other.
use Rattle.std.proofs.Common.{◌≡◌, ◌⊎◌, List, [], ◌∷◌, Some, None, Ok, Err, Option, Result, sym, refl, ap, ◌∙◌, subst, inl, inr, ⊎_elim, arith}
use Rattle.forms.specs.Faults.{Fault, judged}
use Rattle.sheet.specs.Rules.{Before, rank}

-- The fault is one of these.
abbrev pub OneOf : List (Option Fault) → Fault → Type 0
OneOf [] f = ⊥
OneOf (o ∷ os) f = (o ≡ Some f) ⊎ OneOf os f

-- Each fault counts before those behind it.
abbrev pub Ordered : List (Option Fault) → Type 0
Ordered [] = Unit {0}
Ordered (o ∷ os) = ((f g : Fault) → o ≡ Some f → OneOf os g → Before f g) × Ordered os

-- A fault counts: it is there, and any other counts behind it.
abbrev pub First : List (Option Fault) → Fault → Type 0
First os f = OneOf os f × ((g : Fault) → OneOf os g → (g ≡ f) ⊎ Before f g)

some_same : (f g : Fault) → Some f ≡ Some g → f ≡ g
some_same f g e = cc

never_both : (f g : Fault) → Before f g → Before g f → ⊥
never_both f g fg gf =
    ⊎_elim
    (λ a. ⊎_elim (λ b. absurd (omega (arith, a, b))) (λ b. let same = ap rank b.0 in absurd (omega (arith, a, same))) gf)
    (λ a.
    let same = ap rank a.0 in
    ⊎_elim (λ b. absurd (omega (arith, b, same))) (λ b. absurd (omega (arith, a.1, b.1))) gf)
    fg

module _ {X : Type 0} (x : X) where
  pub judged_first : (os : List (Option Fault)) (f : Fault) → Ordered os → judged os x ≡ Err f → First os f
  judged_first [] f ordered e = cc
  judged_first (None ∷ os) f ordered e =
      let rest = judged_first os f ordered.1 e in
      (inr rest.0, λ g i. ⊎_elim (λ none. cc) (λ later. rest.1 g later) i)
  judged_first (Some f' ∷ os) f ordered e =
      let same : f' ≡ f = cc in (
        inl (ap Some same),
        λ g i. ⊎_elim (λ here. inl (sym (some_same f' g here) ∙ same)) (λ later. inr (subst (λ h. Before h g) same (ordered.0 f' g refl later))) i,
      )

  pub judged_without : (os : List (Option Fault)) (y : X) → judged os x ≡ Ok y → (g : Fault) → OneOf os g → ⊥
  judged_without [] y e g i = i
  judged_without (None ∷ os) y e g i = ⊎_elim (λ none. cc) (λ later. judged_without os y e g later) i
  judged_without (Some f ∷ os) y e g i = cc

  pub without_judged : (os : List (Option Fault)) → ((g : Fault) → OneOf os g → ⊥) → judged os x ≡ Ok x
  without_judged [] none = refl
  without_judged (None ∷ os) none = without_judged os (λ g i. none g (inr i))
  without_judged (Some f ∷ os) none = absurd (none f (inl refl))

  same_first : (os : List (Option Fault)) (f : Fault) → Ordered os → First os f → (r : Result X Fault) → judged os x ≡ r → judged os x ≡ Err f
  same_first os f ordered first (Ok y) e = absurd (judged_without os y e f first.0)
  same_first os f ordered first (Err g) e =
      let other = judged_first os g ordered e in
      let same : g ≡ f =
      ⊎_elim (λ s. s) (λ fg. ⊎_elim (λ s. sym s) (λ gf. absurd (never_both f g fg gf)) (other.1 f first.0)) (first.1 g other.0) in
      e ∙ ap Err same

  pub first_judged : (os : List (Option Fault)) (f : Fault) → Ordered os → First os f → judged os x ≡ Err f
  first_judged os f ordered first = same_first os f ordered first (judged os x) refl
