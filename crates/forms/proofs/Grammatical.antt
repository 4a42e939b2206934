-- A line is a form by the grammar exactly if its brackets pair up and its bytes may stand one after the other. One way goes by induction
-- over what the grammar reads: behind it, the bytes to come are judged as if it were not there. The other way goes by induction over the
-- bytes, from the last to the first: bytes that may stand so and that close d brackets are d levels of items, each with a closing bracket
-- behind it, and one byte more in front of them continues an item, begins one, or opens or closes a level.
use Rattle.std.proofs.Common.{◌≡◌, ℕ, zero, suc, ◌+◌, ◌-◌, ◌<◌, ◌≤◌, Bool, true, ◌&&◌, ◌||◌, ltb, List, [], ◌∷◌, ◌++◌, sym, refl, ap, ◌∙◌, subst, ⊎_elim, arith}
use Rattle.std.proofs.lemmas.List.{append_assoc}
use Rattle.std.proofs.lemmas.Bool.{and_from, and_parts, cond-true, eqb-true, ltb-true, or_cases}
use Rattle.std.proofs.lemmas.Bool.Decides.{nat_tests}
use Rattle.forms.specs.Forms.{bracketed, closed, closing, digit, empty, letter, may_follow, opening, space, spelled, spelled_out}
use Rattle.forms.specs.Grammar.{FormsByGrammar, Kind, Reads, all_of, form, item, items, bracket, word, number, nested, none, more}

-- Letters and digits are no brackets.
letter_follows : (a b : ℕ) → letter a ≡ true → may_follow a b ≡ (letter b || space b || closing b)
letter_follows a b l = grind (arith, nat_tests)

digit_follows : (a b : ℕ) → digit a ≡ true → may_follow a b ≡ (digit b || space b || closing b)
digit_follows a b l = grind (arith, nat_tests)

letter_stays : (depth b : ℕ) (bs : List ℕ) → letter b ≡ true → closed depth (b ∷ bs) ≡ closed depth bs
letter_stays depth b bs l = grind (arith, nat_tests)

digit_stays : (depth b : ℕ) (bs : List ℕ) → digit b ≡ true → closed depth (b ∷ bs) ≡ closed depth bs
digit_stays depth b bs l = grind (arith, nat_tests)

-- A byte that can end an item.
abbrev ends : ℕ → Bool
ends a = letter a || digit a || closing a

end_before_space : (a : ℕ) → ends a ≡ true → may_follow a 32 ≡ true
end_before_space a e = grind (arith, nat_tests)

end_before_closing : (a : ℕ) → ends a ≡ true → may_follow a 41 ≡ true
end_before_closing a e = grind (arith, nat_tests)

-- Whether these bytes are spelled does not depend on the byte that ended the item before them.
abbrev SpelledOn : List ℕ → Bool → Type 0
SpelledOn bs v = (a : ℕ) → ends a ≡ true → spelled a bs ≡ v

step_spelled : (a b : ℕ) (bs : List ℕ) → may_follow a b ≡ true → spelled a (b ∷ bs) ≡ spelled b bs
step_spelled a b bs follows = ap (λ (t : Bool). t && spelled b bs) follows

letters_spelled : (a : ℕ) (ws rest : List ℕ) (v : Bool) → letter a ≡ true → all_of letter ws ≡ true → SpelledOn rest v
    → spelled a (ws ++ rest) ≡ v
letters_spelled a [] rest v l all on = on a (grind (arith, nat_tests))
letters_spelled a (w ∷ ws) rest v l all on =
    let both = and_parts _ _ all in
    step_spelled a w (ws ++ rest) (grind (arith, nat_tests)) ∙ letters_spelled w ws rest v both.0 both.1 on

digits_spelled : (a : ℕ) (ds rest : List ℕ) (v : Bool) → digit a ≡ true → all_of digit ds ≡ true → SpelledOn rest v
    → spelled a (ds ++ rest) ≡ v
digits_spelled a [] rest v l all on = on a (grind (arith, nat_tests))
digits_spelled a (d ∷ ds) rest v l all on =
    let both = and_parts _ _ all in
    step_spelled a d (ds ++ rest) (grind (arith, nat_tests)) ∙ digits_spelled d ds rest v both.0 both.1 on

-- A form's bytes with what stands behind it.
shifted : (ws inner rest : List ℕ) → (ws ++ (inner ++ (41 ∷ []))) ++ rest ≡ ws ++ (inner ++ (41 ∷ rest))
shifted ws inner rest =
    append_assoc ws (inner ++ (41 ∷ [])) rest ∙ ap (λ (xs : List ℕ). ws ++ xs) (append_assoc inner (41 ∷ []) rest)

-- What the grammar reads is spelled: an item after a space, items up to a closing bracket.
abbrev Spells : Kind → List ℕ → Type 0
Spells form bs = (rest : List ℕ) (v : Bool) → SpelledOn rest v → spelled 32 (bs ++ rest) ≡ v
Spells item bs = (rest : List ℕ) (v : Bool) → SpelledOn rest v → spelled 32 (bs ++ rest) ≡ v
Spells items bs = (rest : List ℕ) (v : Bool) → spelled 41 rest ≡ v → SpelledOn (bs ++ (41 ∷ rest)) v

reads_spelled : {k : Kind} {m : ℕ} {bs : List ℕ} → Reads k m bs → Spells k bs
reads_spelled (bracket w ws inner lt l all reads) = λ rest v on.
    step_spelled 40 w ((ws ++ (inner ++ (41 ∷ []))) ++ rest) l
    ∙ ap (spelled w) (shifted ws inner rest)
    ∙ letters_spelled w ws (inner ++ (41 ∷ rest)) v l all (reads_spelled reads rest v (on 41 refl))
reads_spelled (word w ws l all) = λ rest v on.
    step_spelled 32 w (ws ++ rest) (grind (arith, nat_tests)) ∙ letters_spelled w ws rest v l all on
reads_spelled (number d ds l all) = λ rest v on.
    step_spelled 32 d (ds ++ rest) (grind (arith, nat_tests)) ∙ digits_spelled d ds rest v l all on
reads_spelled (nested reads) = reads_spelled reads
reads_spelled none = λ rest v e a end. step_spelled a 41 rest (end_before_closing a end) ∙ e
reads_spelled (more i inner first later) = λ rest v e a end.
    step_spelled a 32 ((i ++ inner) ++ (41 ∷ rest)) (end_before_space a end)
    ∙ ap (spelled 32) (append_assoc i inner (41 ∷ rest))
    ∙ reads_spelled first (inner ++ (41 ∷ rest)) v (reads_spelled later rest v e)

-- What the grammar reads opens and closes the same brackets.
letters_stay : (depth : ℕ) (ws rest : List ℕ) → all_of letter ws ≡ true → closed depth (ws ++ rest) ≡ closed depth rest
letters_stay depth [] rest all = refl
letters_stay depth (w ∷ ws) rest all =
    let both = and_parts _ _ all in
    letter_stays depth w (ws ++ rest) both.0 ∙ letters_stay depth ws rest both.1

digits_stay : (depth : ℕ) (ds rest : List ℕ) → all_of digit ds ≡ true → closed depth (ds ++ rest) ≡ closed depth rest
digits_stay depth [] rest all = refl
digits_stay depth (d ∷ ds) rest all =
    let both = and_parts _ _ all in
    digit_stays depth d (ds ++ rest) both.0 ∙ digits_stay depth ds rest both.1

opens : (depth : ℕ) (bs : List ℕ) → depth < 16 → closed depth (40 ∷ bs) ≡ closed (depth + 1) bs
opens depth bs room = grind (arith, nat_tests)

shuts : (depth : ℕ) (bs : List ℕ) → 1 ≤ depth → closed (depth + 1) (41 ∷ bs) ≡ closed depth bs
shuts depth bs some =
    let back : depth + 1 - 1 ≡ depth = omega arith in
    let same = ap (λ (k : ℕ). closed k bs) back in
    grind (arith, nat_tests)

reads_closed : {k : Kind} {m : ℕ} {bs : List ℕ} → Reads k m bs → (depth : ℕ) (rest : List ℕ) → 1 ≤ depth → depth + m ≤ 16
    → closed depth (bs ++ rest) ≡ closed depth rest
reads_closed (bracket w ws inner lt l all reads) depth rest some fits =
    opens depth (w ∷ ((ws ++ (inner ++ (41 ∷ []))) ++ rest)) (omega arith)
    ∙ letter_stays (depth + 1) w ((ws ++ (inner ++ (41 ∷ []))) ++ rest) l
    ∙ ap (closed (depth + 1)) (shifted ws inner rest)
    ∙ letters_stay (depth + 1) ws (inner ++ (41 ∷ rest)) all
    ∙ reads_closed reads (depth + 1) (41 ∷ rest) (omega arith) (omega arith)
    ∙ shuts depth rest some
reads_closed (word w ws l all) depth rest some fits =
    letter_stays depth w (ws ++ rest) l ∙ letters_stay depth ws rest all
reads_closed (number d ds l all) depth rest some fits =
    digit_stays depth d (ds ++ rest) l ∙ digits_stay depth ds rest all
reads_closed (nested reads) depth rest some fits = reads_closed reads depth rest some fits
reads_closed none depth rest some fits = refl
reads_closed (more i inner first later) depth rest some fits =
    ap (closed depth) (append_assoc i inner rest)
    ∙ reads_closed first depth (inner ++ rest) some fits
    ∙ reads_closed later depth rest some fits

-- A form by the grammar passes.
form_passes : {k : Kind} {m : ℕ} {bs : List ℕ} → Reads k m bs → k ≡ form → m ≤ 16 → (bracketed bs && spelled_out bs) ≡ true
form_passes (bracket w ws inner lt l all reads) is_form fits =
    let bytes = ws ++ (inner ++ (41 ∷ [])) in
    and_from (closed 1 (w ∷ bytes)) (spelled 40 (w ∷ bytes))
    (letter_stays 1 w bytes l
    ∙ letters_stay 1 ws (inner ++ (41 ∷ [])) all
    ∙ reads_closed reads 1 (41 ∷ []) (omega arith) (omega arith))
    (step_spelled 40 w bytes l ∙ letters_spelled w ws (inner ++ (41 ∷ [])) true l all (reads_spelled reads [] true refl))
form_passes (word w ws l all) is_form fits = cc
form_passes (number d ds l all) is_form fits = cc
form_passes (nested reads) is_form fits = cc
form_passes none is_form fits = cc
form_passes (more i inner first later) is_form fits = cc

-- The other way. The rest of a line that closes d brackets: d times some items and a closing bracket.
data Tail : ℕ → List ℕ → Type 0 where
  done : Tail zero []
  level : {d : ℕ} (inner rest : List ℕ) → Reads items (15 - d) inner → Tail d rest → Tail (suc d) (inner ++ (41 ∷ rest))

-- An item before such a rest, and its space.
spaced : {d : ℕ} {left : List ℕ} (i : List ℕ) → Reads item (15 - d) i → Tail (suc d) left → Tail (suc d) (32 ∷ (i ++ left))
spaced i reads (level inner rest more-reads below) =
    subst (Tail _) (ap (λ (xs : List ℕ). 32 ∷ xs) (append_assoc i inner (41 ∷ rest)))
    (level (32 ∷ (i ++ inner)) rest (more i inner reads more-reads) below)

-- Bytes that pass a test, then such a rest.
record Run (passes : ℕ → Bool) (d : ℕ) (bs : List ℕ) : Type 0 where
  run : List ℕ
  left : List ℕ
  whole : bs ≡ run ++ left
  all : all_of passes run ≡ true
  tail : Tail (suc d) left

-- An item, and a word, then such a rest.
record ItemThen (d : ℕ) (bs : List ℕ) : Type 0 where
  the : List ℕ
  left : List ℕ
  whole : bs ≡ the ++ left
  reads : Reads item (15 - d) the
  tail : Tail (suc d) left

record WordThen (d : ℕ) (bs : List ℕ) : Type 0 where
  first : ℕ
  others : List ℕ
  left : List ℕ
  whole : bs ≡ first ∷ (others ++ left)
  is_letter : letter first ≡ true
  all : all_of letter others ≡ true
  tail : Tail (suc d) left

-- What bytes are that are spelled and close d brackets, for each kind of byte that may stand before them.
record GoesOn (d : ℕ) (bs : List ℕ) : Type 0 where
  after_letter : (a : ℕ) → letter a ≡ true → spelled a bs ≡ true → Run letter d bs
  after_digit : (a : ℕ) → digit a ≡ true → spelled a bs ≡ true → Run digit d bs
  after_space : spelled 32 bs ≡ true → ItemThen d bs
  after_opening : spelled 40 bs ≡ true → WordThen d bs
  after_closing : spelled 41 bs ≡ true → Tail (suc d) bs

-- A word, items and a closing bracket are a form in brackets, with the rest behind it.
in_brackets : {d : ℕ} {left : List ℕ} (w : ℕ) (ws : List ℕ) → suc d < 16 → letter w ≡ true → all_of letter ws ≡ true
    → Tail (suc (suc d)) left → ItemThen d (40 ∷ (w ∷ (ws ++ left)))
in_brackets w ws room l all (level inner rest reads below) =
    record {
      the = 40 ∷ (w ∷ (ws ++ (inner ++ (41 ∷ []))));
      left = rest;
      whole = ap (λ (xs : List ℕ). 40 ∷ (w ∷ xs)) (sym (shifted ws inner rest));
      reads = nested (bracket w ws inner (omega arith) l all reads);
      tail = below;
    }

space_stays : (depth b : ℕ) (bs : List ℕ) → space b ≡ true → closed depth (b ∷ bs) ≡ closed depth bs
space_stays depth b bs s = grind (arith, nat_tests)

empty_none : (bs : List ℕ) → empty bs ≡ true → bs ≡ []
empty_none [] e = refl
empty_none (b ∷ bs) e = cc

-- This holds of the bytes behind, for any number of brackets that they close.
abbrev Next : List ℕ → Type 0
Next bs = (e : ℕ) → e < 16 → closed (suc e) bs ≡ true → GoesOn e bs

closing_goes_on : (bs : List ℕ) (d : ℕ) → d < 16 → closed (suc d) (41 ∷ bs) ≡ true → spelled 41 bs ≡ true → Next bs
    → Tail (suc d) (41 ∷ bs)
closing_goes_on bs zero room closes s next =
    subst (λ (xs : List ℕ). Tail 1 (41 ∷ xs)) (sym (empty_none bs closes)) (level [] [] none done)
closing_goes_on bs (suc d) room closes s next =
    let up : suc d + 1 ≡ suc (suc d) = omega arith in
    let below : closed (suc d) bs ≡ true =
    sym (shuts (suc d) bs (omega arith)) ∙ ap (λ (k : ℕ). closed k (41 ∷ bs)) up ∙ closes in
    level [] bs none ((next d (omega arith) below).after_closing s)

one_of_three : {X : Type 0} (x y z : Bool) → (x ≡ true → X) → (y ≡ true → X) → (z ≡ true → X) → (x || y || z) ≡ true → X
one_of_three x y z f g h e = ⊎_elim (λ xy. ⊎_elim f g (or_cases x y xy)) h (or_cases (x || y) z e)

run_over : {passes : ℕ → Bool} {d : ℕ} {bs : List ℕ} → Tail (suc d) bs → Run passes d bs
run_over {bs = bs} tail = record { run = []; left = bs; whole = refl; all = refl; tail = tail }

run_longer : {passes : ℕ → Bool} {d : ℕ} {bs : List ℕ} (b : ℕ) → passes b ≡ true → Run passes d bs → Run passes d (b ∷ bs)
run_longer b passed r =
    record {
      run = b ∷ r.run;
      left = r.left;
      whole = ap (λ (xs : List ℕ). b ∷ xs) r.whole;
      all = and_from _ _ passed r.all;
      tail = r.tail;
    }

-- One byte more at the front.
module _ (b : ℕ) (bs : List ℕ) (d : ℕ) (room : d < 16) (closes : closed (suc d) (b ∷ bs) ≡ true) (next : Next bs) where
  letters_next : letter b ≡ true → spelled b bs ≡ true → Run letter d bs
  letters_next l s = (next d room (sym (letter_stays (suc d) b bs l) ∙ closes)).after_letter b l s

  digits_next : digit b ≡ true → spelled b bs ≡ true → Run digit d bs
  digits_next l s = (next d room (sym (digit_stays (suc d) b bs l) ∙ closes)).after_digit b l s

  at_space : spelled b bs ≡ true → space b ≡ true → Tail (suc d) (b ∷ bs)
  at_space s sp =
      let is : b ≡ 32 = eqb-true b 32 sp in
      let r = (next d room (sym (space_stays (suc d) b bs sp) ∙ closes)).after_space (rw is at s) in
      subst (Tail (suc d)) (ap (λ (xs : List ℕ). 32 ∷ xs) (sym r.whole) ∙ ap (λ (x : ℕ). x ∷ bs) (sym is))
      (spaced r.the r.reads r.tail)

  at_closing : spelled b bs ≡ true → closing b ≡ true → Tail (suc d) (b ∷ bs)
  at_closing s cl =
      let is : b ≡ 41 = eqb-true b 41 cl in
      subst (λ (x : ℕ). Tail (suc d) (x ∷ bs)) (sym is) (closing_goes_on bs d room (rw is at closes) (rw is at s) next)

  at_opening : spelled b bs ≡ true → opening b ≡ true → ItemThen d (b ∷ bs)
  at_opening s op =
      let is : b ≡ 40 = eqb-true b 40 op in
      let deeper : (ltb (suc d) 16 && closed (suc d + 1) bs) ≡ true =
      sym (cond-true (opening b) (ltb (suc d) 16 && closed (suc d + 1) bs) _ op) ∙ closes in
      let both = and_parts _ _ deeper in
      let fits : suc d < 16 = ltb-true _ _ both.0 in
      let down : suc d + 1 ≡ suc (suc d) = omega arith in
      let r = (next (suc d) fits (rw down at both).1).after_opening (rw is at s) in
      subst (ItemThen d) (ap (λ (xs : List ℕ). 40 ∷ xs) (sym r.whole) ∙ ap (λ (x : ℕ). x ∷ bs) (sym is))
      (in_brackets r.first r.others fits r.is_letter r.all r.tail)

  at_word : spelled b bs ≡ true → letter b ≡ true → ItemThen d (b ∷ bs)
  at_word s l =
      let r = letters_next l s in
      record { the = b ∷ r.run; left = r.left; whole = ap (λ (xs : List ℕ). b ∷ xs) r.whole; reads = word b r.run l r.all; tail = r.tail }

  at_number : spelled b bs ≡ true → digit b ≡ true → ItemThen d (b ∷ bs)
  at_number s l =
      let r = digits_next l s in
      record { the = b ∷ r.run; left = r.left; whole = ap (λ (xs : List ℕ). b ∷ xs) r.whole; reads = number b r.run l r.all; tail = r.tail }

  one_more : GoesOn d (b ∷ bs)
  one_more =
      record {
        after_letter = λ a l s.
            let both = and_parts (may_follow a b) (spelled b bs) s in
            one_of_three (letter b) (space b) (closing b)
            (λ le. run_longer b le (letters_next le both.1))
            (λ sp. run_over (at_space both.1 sp))
            (λ cl. run_over (at_closing both.1 cl))
            (sym (letter_follows a b l) ∙ both.0);
        after_digit = λ a l s.
            let both = and_parts (may_follow a b) (spelled b bs) s in
            one_of_three (digit b) (space b) (closing b)
            (λ di. run_longer b di (digits_next di both.1))
            (λ sp. run_over (at_space both.1 sp))
            (λ cl. run_over (at_closing both.1 cl))
            (sym (digit_follows a b l) ∙ both.0);
        after_space = λ s.
            let both = and_parts (letter b || digit b || opening b) (spelled b bs) s in
            one_of_three (letter b) (digit b) (opening b) (at_word both.1) (at_number both.1) (at_opening both.1) both.0;
        after_opening = λ s.
            let both = and_parts (letter b) (spelled b bs) s in
            let r = letters_next both.0 both.1 in
            record {
              first = b;
              others = r.run;
              left = r.left;
              whole = ap (λ (xs : List ℕ). b ∷ xs) r.whole;
              is_letter = both.0;
              all = r.all;
              tail = r.tail;
            };
        after_closing = λ s.
            let both = and_parts (space b || closing b) (spelled b bs) s in
            ⊎_elim (at_space both.1) (at_closing both.1) (or_cases (space b) (closing b) both.0);
      }

goes_on : (bs : List ℕ) → Next bs
goes_on [] d room closes = cc
goes_on (b ∷ bs) d room closes = one_more b bs d room closes (goes_on bs)

-- A word, items and the last closing bracket.
last_bracket : {left : List ℕ} (w : ℕ) (ws : List ℕ) → letter w ≡ true → all_of letter ws ≡ true → Tail 1 left
    → Reads form 16 (40 ∷ (w ∷ (ws ++ left)))
last_bracket w ws l all (level inner rest reads done) = bracket w ws inner (omega arith) l all reads

-- What passes is a form by the grammar.
pub passes_form : (bs : List ℕ) → (bracketed bs && spelled_out bs) ≡ true → Reads form 16 bs
passes_form [] passed = cc
passes_form (b ∷ bs) passed =
    let both = and_parts (opening b && closed 1 bs) (spelled b bs) passed in
    let open-closed = and_parts (opening b) (closed 1 bs) both.0 in
    let is : b ≡ 40 = eqb-true b 40 open-closed.0 in
    let r = (goes_on bs 0 (omega arith) open-closed.1).after_opening (rw is at both).1 in
    subst (Reads form 16) (ap (λ (xs : List ℕ). 40 ∷ xs) (sym r.whole) ∙ ap (λ (x : ℕ). x ∷ bs) (sym is))
    (last_bracket r.first r.others r.is_letter r.all r.tail)

pub forms_by_grammar : FormsByGrammar
forms_by_grammar bs = (passes_form bs, λ reads. form_passes reads refl (omega arith))
