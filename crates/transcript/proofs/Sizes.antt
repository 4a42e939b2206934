-- A script has a tick for each clock, and the calls of each at-line at most once; and an at-line has no more calls than bytes.
use Rattle.std.proofs.Common.{◌≡◌, ℕ, zero, suc, ◌+◌, ◌-◌, ◌≤◌, cond, eqb, ltb, List, [], ◌∷◌, length, Some, None, Option, refl, ⊎_elim, arith, length-append}
use Rattle.std.specs.List.{sum_by}
use Rattle.std.proofs.lemmas.Bool.{cases_Bool, cond_both, le-ltb}
use Rattle.std.proofs.lemmas.Bool.Decides.{nat_tests}
use Rattle.std.proofs.lemmas.List.Sums.{sum_by-cons}
use Rattle.forms.specs.Items.{inside, items}
use Rattle.forms.specs.Sayings.{call}
use Rattle.forms.proofs.Lengths.{items_within}
use Rattle.model.specs.declared.calls.Call.{Call}
use Rattle.sheet.specs.Ats.{AtLine, behind_first, calls_at, leading_calls}
use Rattle.sheet.proofs.Small.{byte_count, sheet_is_small}
use Rattle.transcript.specs.Scripts.{calls_before, script_of}
use Rattle.transcript.proofs.Scripts.{script_longer}
use Rattle.transcript.specs.Sizes.{ScriptsFit, SheetsFit}

-- No more calls than items.
one_call : (o : Option Call) (is : List (List ℕ)) → length (leading_calls is) ≤ length is
    → length (elim o as (λ x. List Call) [ None ↦ [] | Some c ↦ c ∷ leading_calls is ]) ≤ suc (length is)
one_call None is few = omega arith
one_call (Some c) is few = omega arith

calls_within : (is : List (List ℕ)) → length (leading_calls is) ≤ length is
calls_within [] = omega arith
calls_within (i ∷ is) = one_call (call i) is (calls_within is)

behind_shorter : (is : List (List ℕ)) → length (behind_first is) ≡ length is - 1
behind_shorter [] = omega arith
behind_shorter (i ∷ is) = omega arith

-- No more calls than bytes.
calls_at_line : (a : AtLine) → length (calls_at a) ≤ length a.bytes
calls_at_line a =
    let all = items 0 (inside a.bytes) in
    omega (arith, calls_within (behind_first (behind_first all)), behind_shorter (behind_first all), behind_shorter all, items_within a.bytes)

-- How many calls at-lines have.
abbrev call_count : List AtLine → ℕ
call_count = sum_by (λ a. length (calls_at a))

calls_at_lines : (ats : List AtLine) → call_count ats ≤ byte_count ats
calls_at_lines [] = omega arith
calls_at_lines (a ∷ ats) =
    omega (
      arith,
      calls_at_line a,
      calls_at_lines ats,
      sum_by-cons (λ (x : AtLine). length (calls_at x)) a ats,
      sum_by-cons (λ (x : AtLine). length x.bytes) a ats,
    )

-- An at-line adds its calls at its clock, and nothing at another.
calls_with : (a : AtLine) (ats : List AtLine) (clock : ℕ)
    → length (calls_before (a ∷ ats) clock) ≡ cond (eqb a.clock clock) (length (calls_at a)) 0 + length (calls_before ats clock)
calls_with a ats clock =
    ⊎_elim (λ here. rw here (length-append (calls_at a) (calls_before ats clock))) (λ other. rw other (omega arith))
    (cases_Bool (eqb a.clock clock))

-- So it adds them once, if its clock has come.
script_with : (a : AtLine) (ats : List AtLine) (n : ℕ)
    → length (script_of (a ∷ ats) n) ≡ cond (ltb a.clock n) (length (calls_at a)) 0 + length (script_of ats n)
script_with a ats zero = rw (le-ltb a.clock 0 (omega arith)) (omega arith)
script_with a ats (suc clock) =
    let k = length (calls_at a) in
    let once : cond (ltb a.clock clock) k 0 + cond (eqb a.clock clock) k 0 ≡ cond (ltb a.clock (suc clock)) k 0 = grind (arith, nat_tests) in
    omega (
      arith,
      once,
      script_with a ats clock,
      calls_with a ats clock,
      script_longer (a ∷ ats) clock,
      script_longer ats clock,
    )

script_of_ticks : (n : ℕ) → length (script_of [] n) ≡ n
script_of_ticks zero = refl
script_of_ticks (suc clock) = omega (arith, script_of_ticks clock, script_longer [] clock)

script_within : (ats : List AtLine) (n : ℕ) → length (script_of ats n) ≤ call_count ats + n
script_within [] n = omega (arith, script_of_ticks n)
script_within (a ∷ ats) n =
    let k = length (calls_at a) in
    let at_most : cond (ltb a.clock n) k 0 ≤ k = cond_both (ltb a.clock n) k 0 (λ (m : ℕ). m ≤ k) (λ _. omega arith) (λ _. omega arith) in
    omega (arith, at_most, script_with a ats n, script_within ats n, sum_by-cons (λ (x : AtLine). length (calls_at x)) a ats)

pub scripts_fit : ScriptsFit
scripts_fit text s e =
    let few = sheet_is_small text s e in
    omega (arith, few.bytes, few.ticks, calls_at_lines s.ats, script_within s.ats s.ticks)

pub sheets_fit : SheetsFit
sheets_fit text s e = let few = sheet_is_small text s e in record { ats = few.ats; ticks = few.ticks; rows = few.rows }
