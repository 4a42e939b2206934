-- The first byte that passes a test: where a line ends, and where a bad letter stands.
use Rattle.std.proofs.Common.{◌≡◌, ℕ, suc, ◌+◌, ◌≤◌, Bool, true, false, cond, not, eqb, ltb, List, [], ◌∷◌, length, Some, None, Option, unwrap_or, position, refl, ap, ◌∙◌, ⊎_elim, arith}
use Rattle.std.specs.List.{position_or_len}
use Rattle.std.proofs.lemmas.Bool.{cases_Bool}
use Rattle.std.proofs.lemmas.Bool.Decides.{nat_tests}
use Rattle.forms.specs.Faults.{Fault, fault}
use Rattle.forms.specs.Lines.{allowed, bad_letter, line_length, next_byte}
use Rattle.forms.specs.declared.faults.Layer.TheVariants.{Letters}
use Rattle.forms.specs.declared.faults.Position.{Position}

one_more : {m n : ℕ} → m ≡ n → 1 + m ≡ suc n
one_more e = omega (arith, e)

-- A line ends at the first 10.
line_ends : (bs : List ℕ) → position_or_len (λ b. eqb b 10) bs ≡ line_length bs
line_ends [] = refl
line_ends (b ∷ bs) = let rest = line_ends bs in ⊎_elim (λ t. rw t refl) (λ f. rw f (one_more rest)) (cases_Bool (eqb b 10))

pub line_length_within : (bs : List ℕ) → line_length bs ≤ length bs
line_length_within [] = omega arith
line_length_within (b ∷ bs) = let rest = line_length_within bs in grind (arith, nat_tests)

pub line_length_found : (bs : List ℕ) → unwrap_or (position (λ b. eqb b 10) bs) (length bs) ≡ line_length bs
line_length_found bs =
    let ends = line_ends bs in
    let within = line_length_within bs in
    ⊎_elim
    (λ t. rw t ends)
    (λ f. rw f (let past = f in grind (arith, nat_tests)))
    (cases_Bool (ltb (position_or_len (λ b. eqb b 10) bs) (length bs)))

-- The fault at the first bad letter, if there is one.
abbrev pub bad_at : Position → Option ℕ → Option Fault
bad_at p None = None
bad_at p (Some ahead) = Some (fault 12 Letters (record { line = p.line; byte = p.byte + ahead }))

abbrev first_bad : List ℕ → ℕ
first_bad bs = position_or_len (λ b. not (allowed b)) bs

on_at : (p : Position) (t : Bool) (n : ℕ) → bad_at (next_byte p) (cond t (Some n) None) ≡ bad_at p (cond t (Some (1 + n)) None)
on_at p true n =
    let same : p.byte + 1 + n ≡ p.byte + (1 + n) = omega arith in
    ap (λ k. Some (fault 12 Letters (record { line = p.line; byte = k }))) same
on_at p false n = refl

pub bad_letter_found : (p : Position) (bs : List ℕ) → bad_letter p bs ≡ bad_at p (position (λ b. not (allowed b)) bs)
bad_letter_found p [] = refl
bad_letter_found p (b ∷ bs) =
    ⊎_elim
    (λ t.
    let n = first_bad bs in
    let room : ltb n (length bs) ≡ ltb (1 + n) (suc (length bs)) = grind (arith, nat_tests) in
    rw t
    (bad_letter_found (next_byte p) bs ∙ on_at p (ltb n (length bs)) n
    ∙ ap (λ (r : Bool). bad_at p (cond r (Some (1 + n)) None)) room))
    (λ f.
    let here : true ≡ ltb 0 (suc (length bs)) = grind (arith, nat_tests) in
    let same : p.byte ≡ p.byte + 0 = omega arith in
    rw f
    (ap (λ k. Some (fault 12 Letters (record { line = p.line; byte = k }))) same
    ∙ ap (λ (r : Bool). bad_at p (cond r (Some 0) None)) here))
    (cases_Bool (allowed b))
