-- Where the first line of a text ends, and what is left behind it.
use Rattle.std.proofs.Common.{◌≡◌, ℕ, suc, ◌+◌, ◌-◌, ◌<◌, ◌≤◌, min, Bool, true, false, eqb, ltb, List, [], ◌∷◌, length, get_or, take, drop, sym, ap, ◌∙◌, ⊎_elim, arith, length-drop}
use Rattle.std.proofs.lemmas.List.{drop_all, drop-drop, drop_more, take_all}
use Rattle.std.proofs.lemmas.Bool.{cases_Bool, cases_lt}
use Rattle.std.proofs.lemmas.Bool.Decides.{nat_tests}
use Rattle.forms.specs.Lines.{Line, begun_by, line_length, lines, next_byte}
use Rattle.forms.specs.declared.faults.Position.{Position}
use Rattle.forms.proofs.Firsts.{line_length_within}

-- The first line of a text, and the position of the next one.
abbrev pub first_line : Position → List ℕ → Line
first_line p bs = record { bytes = take (line_length bs) bs; position = p; ended = ltb (line_length bs) (length bs) }

abbrev pub second_position : Position → List ℕ → Position
second_position p bs = record { line = p.line + 1; byte = p.byte + min (length bs) (suc (line_length bs)) }

-- A line of these bytes at a position, and the lines of the rest, which begins at byte n of the text.
abbrev line_then : List ℕ → List ℕ → Position → Bool → ℕ → List Line
line_then bytes rest p ended n = record { bytes = bytes; position = p; ended = ended } ∷ lines (record { line = p.line + 1; byte = n }) rest

same_split : (bytes rest : List ℕ) (p : Position) {e f : Bool} {m n : ℕ} → e ≡ f → m ≡ n → line_then bytes rest p e m ≡ line_then bytes rest p f n
same_split bytes rest p {f = f} {m = m} ends next = ap (λ (e : Bool). line_then bytes rest p e m) ends ∙ ap (line_then bytes rest p f) next

abbrev Split : Position → List ℕ → Type 0
Split p bs = lines p bs ≡ first_line p bs ∷ lines (second_position p bs) (drop (suc (line_length bs)) bs)

split_at_end : (p : Position) (b : ℕ) (bs : List ℕ) → eqb b 10 ≡ true → Split p (b ∷ bs)
split_at_end p b bs t =
    rw t
    (let ends : true ≡ ltb 0 (suc (length bs)) = grind (arith, nat_tests) in
    let next : p.byte + 1 ≡ p.byte + min (suc (length bs)) 1 = omega arith in
    same_split [] bs p ends next)

split_later : (p : Position) (b : ℕ) (bs : List ℕ) → eqb b 10 ≡ false → Split (next_byte p) bs → Split p (b ∷ bs)
split_later p b bs f rest =
    rw f
    (let n = line_length bs in
    let size = length bs in
    let ends : ltb n size ≡ ltb (suc n) (suc size) = grind (arith, nat_tests) in
    let next : p.byte + 1 + min size (suc n) ≡ p.byte + min (suc size) (suc (suc n)) = omega arith in
    ap (begun_by b p) rest
    ∙ same_split (b ∷ take n bs) (drop (suc n) bs) p ends next)

-- A text is its first line and the lines behind that.
pub lines_split : (p : Position) (b : ℕ) (bs : List ℕ) → Split p (b ∷ bs)
lines_split p b [] = ⊎_elim (split_at_end p b []) (λ f. rw f) (cases_Bool (eqb b 10))
lines_split p b (c ∷ cs) =
    ⊎_elim (split_at_end p b (c ∷ cs)) (λ f. split_later p b (c ∷ cs) f (lines_split (next_byte p) c cs)) (cases_Bool (eqb b 10))

-- What stands behind a line, from the text's own beginning.
behind : (text : List ℕ) (start n : ℕ) → start + n ≤ length text
    → drop (suc n) (drop start text) ≡ drop (min (length text) (start + n + 1)) text
behind text start n h =
    drop-drop (suc n) start text
    ∙ ⊎_elim
    (λ lt. let same : start + suc n ≡ min (length text) (start + n + 1) = omega arith in ap (λ k. drop k text) same)
    (λ le. drop_all (start + suc n) text (omega arith) ∙ sym (drop_all (min (length text) (start + n + 1)) text (omega arith)))
    (cases_lt (start + n) (length text))

-- The lines from a position in a text on: the one that begins there, of n bytes, and those behind it.
pub lines_from : (text : List ℕ) (p : Position) (n next : ℕ)
    → p.byte < length text
    → n ≡ line_length (take (length text - p.byte) (drop p.byte text)) → next ≡ min (length text) (p.byte + n + 1)
    → lines p (drop p.byte text)
    ≡ record { bytes = take n (take (length text - p.byte) (drop p.byte text)); position = p; ended = ltb n (length (take (length text - p.byte) (drop p.byte text))) }
    ∷ lines (record { line = p.line + 1; byte = next }) (drop next text)
lines_from text p n next h e then =
    let rest = drop p.byte text in
    let size : length rest ≡ length text - p.byte = length-drop p.byte text in
    let whole : take (length text - p.byte) rest ≡ rest = take_all (length text - p.byte) rest (omega arith) in
    let ends : n ≡ line_length rest = rw whole at e in
    let fits : line_length rest ≤ length rest = line_length_within rest in
    let moved : p.byte + min (length rest) (suc (line_length rest)) ≡ next = omega arith in
    let same_next : min (length text) (p.byte + line_length rest + 1) ≡ next = omega arith in
    let left : drop (suc (line_length rest)) rest ≡ drop next text = behind text p.byte (line_length rest) (omega arith) ∙ ap (λ k. drop k text) same_next in
    let split : Split p rest = rw (drop_more text p.byte 0 h) (lines_split p (get_or text p.byte 0) (drop (p.byte + 1) text)) in
    rw whole (split ∙ cc)
