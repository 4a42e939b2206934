-- A call's word and numbers between two brackets are a form, so whether an item is a call can be found out without reading it as a form.
-- Where an item stands in brackets and its items say a call, the grammar reads it as a form; where it does not, it is no form, since the
-- last byte of a form closes its first bracket.
use Rattle.std.proofs.Common.{◌≡◌, ℕ, zero, suc, ◌+◌, ◌-◌, Bool, true, false, cond, ◌&&◌, eqb, ltb, List, [], ◌∷◌, ◌++◌, length, take, drop, get_or, is_some, Some, None, Option, codes, sym, refl, ap, ◌∙◌, subst, ⊎_elim, arith}
use Rattle.std.specs.Option.{option_map}
use Rattle.std.specs.Str.{bytes_eq}
use Rattle.std.proofs.lemmas.Slice.Eq.{bytes_eq-Decides}
use Rattle.std.proofs.lemmas.List.{append_assoc, append-nil, take-append-drop}
use Rattle.std.proofs.lemmas.Bool.{and_from, and_parts, cases_Bool, eqb-true}
use Rattle.forms.specs.Forms.{bracketed, closed, closing, digit, empty, in_brackets, letter, opening, spelled_out}
use Rattle.forms.specs.Grammar.{Reads, all_of, bracket, form, item, items as some_items, more, none, number}
use Rattle.forms.specs.Items.{inside, is_number, items, numbers, value}
use Rattle.forms.specs.Laws.{spaced}
use Rattle.forms.specs.Sayings.{call, call_of_items}
use Rattle.forms.proofs.Apart.{taken_apart}
use Rattle.forms.proofs.Grammatical.{forms_by_grammar}

abbrev formed : List ℕ → Bool
formed bs = bracketed bs && spelled_out bs

some_mapped : {X Y : Type 0} (f : X → Y) (o : Option X) → is_some (option_map f o) ≡ true → is_some o ≡ true
some_mapped f None e = e
some_mapped f (Some x) e = refl

-- Where a choice of two has something, the one that was chosen has it.
either : {X : Type 0} {P : Type 0} (t : Bool) (x y : Option X) → (t ≡ true → is_some x ≡ true → P) → (is_some y ≡ true → P)
    → is_some (cond t x y) ≡ true → P
either true x y first second e = first refl e
either false x y first second e = second e

number_reads : (i : List ℕ) → is_number i ≡ true → Reads item 0 i
number_reads [] e = cc
number_reads (d ∷ ds) e = let both = and_parts (digit d) (all_of digit ds) e in number d ds both.0 both.1

-- Numbers behind an item, each after a space.
record Behind (i : List ℕ) (is : List (List ℕ)) : Type 0 where
  rest : List ℕ
  whole : spaced (i ∷ is) ≡ i ++ rest
  reads : Reads some_items 0 rest

behind : (i : List ℕ) (n : ℕ) (is : List (List ℕ)) → is_some (numbers n is) ≡ true → Behind i is
behind i zero [] all = record { rest = []; whole = sym (append-nil i); reads = none }
behind i zero (j ∷ is) all = cc
behind i (suc n) [] all = cc
behind i (suc n) (j ∷ is) all =
    either (is_number j) (option_map (λ vs. value j ∷ vs) (numbers n is)) None
    (λ first later.
    let next = behind j n is (some_mapped (λ vs. value j ∷ vs) (numbers n is) later) in
    record {
      rest = 32 ∷ (j ++ next.rest);
      whole = ap (λ xs. i ++ (32 ∷ xs)) next.whole;
      reads = more j next.rest (number_reads j first) next.reads;
    })
    (λ no. cc)
    all

-- A word, and numbers behind it.
record WordThen (is : List (List ℕ)) : Type 0 where
  first : ℕ
  others : List ℕ
  rest : List ℕ
  whole : spaced is ≡ first ∷ (others ++ rest)
  is_letter : letter first ≡ true
  all : all_of letter others ≡ true
  reads : Reads some_items 0 rest

word_then : (w : ℕ) (ws : List ℕ) (word : List ℕ) (n : ℕ) (is : List (List ℕ)) → letter w ≡ true → all_of letter ws ≡ true
    → bytes_eq word (w ∷ ws) ≡ true → is_some (numbers n is) ≡ true → WordThen (word ∷ is)
word_then w ws word n is l all same numbered =
    let next = behind word n is numbered in
    record {
      first = w;
      others = ws;
      rest = next.rest;
      whole = next.whole ∙ ap (λ xs. xs ++ next.rest) ((bytes_eq-Decides word (w ∷ ws)).0 same);
      is_letter = l;
      all = all;
      reads = next.reads;
    }

call_reads : (is : List (List ℕ)) → is_some (call_of_items is) ≡ true → WordThen is
call_reads [] e = cc
call_reads (word ∷ is) e =
    either (bytes_eq word (codes "release")) _ _
    (λ same found. word_then _ _ word 1 is refl refl same (some_mapped _ (numbers 1 is) found))
    (either (bytes_eq word (codes "done")) _ _
    (λ same found. word_then _ _ word 1 is refl refl same (some_mapped _ (numbers 1 is) found))
    (either (bytes_eq word (codes "request")) _ _
    (λ same found. word_then _ _ word 3 is refl refl same (some_mapped _ (numbers 3 is) found))
    (either (bytes_eq word (codes "withdraw")) _ None
    (λ same found. word_then _ _ word 1 is refl refl same (some_mapped _ (numbers 1 is) found))
    (λ no. cc))))
    e

-- Bytes whose items say a call are a form once they stand between two brackets.
says_form : (bs : List ℕ) → is_some (call_of_items (items 0 bs)) ≡ true → formed (40 ∷ (bs ++ (41 ∷ []))) ≡ true
says_form bs e =
    let r = call_reads (items 0 bs) e in
    let whole : bs ≡ r.first ∷ (r.others ++ r.rest) = sym (taken_apart.by_items 0 bs) ∙ r.whole in
    let line = 40 ∷ (bs ++ (41 ∷ [])) in
    let reads : Reads form 16 line =
    subst (λ xs. Reads form 16 (40 ∷ xs)) (sym (ap (λ (xs : List ℕ). xs ++ (41 ∷ [])) whole ∙ ap (λ xs. r.first ∷ xs) (append_assoc r.others r.rest (41 ∷ []))))
    (bracket r.first r.others r.rest (omega arith) r.is_letter r.all r.reads) in
    (forms_by_grammar line).1 reads

less_one : (n : ℕ) → suc n - 1 ≡ n
less_one n = omega arith

by_test : {P : Type 0} (t x y : Bool) → (t ≡ true → x ≡ true → P) → (y ≡ true → P) → cond t x y ≡ true → P
by_test true x y first second e = first refl e
by_test false x y first second e = second e

-- Where brackets pair up, the last byte closes.
last_closes : (depth b : ℕ) (bs : List ℕ) → closed depth bs ≡ true → drop (length bs) (b ∷ bs) ≡ 41 ∷ []
last_closes depth b [] e = cc
last_closes depth b (c ∷ cs) e =
    by_test (opening c) (ltb depth 16 && closed (depth + 1) cs) _
    (λ opens deeper. last_closes (depth + 1) c cs (and_parts (ltb depth 16) (closed (depth + 1) cs) deeper).1)
    (by_test (closing c) (cond (eqb depth 1) (empty cs) (closed (depth - 1) cs)) (closed depth cs)
    (λ closes. by_test (eqb depth 1) (empty cs) (closed (depth - 1) cs) (λ one over. last c cs closes over) (last_closes (depth - 1) c cs))
    (last_closes depth c cs))
    e
  where
    last : (c : ℕ) (cs : List ℕ) → closing c ≡ true → empty cs ≡ true → drop (length cs) (c ∷ cs) ≡ 41 ∷ []
    last c [] closes over = ap (λ x. x ∷ []) (eqb-true c 41 closes)
    last c (d ∷ ds) closes over = cc

form_brackets : (bs : List ℕ) → formed bs ≡ true → in_brackets bs ≡ true
form_brackets [] e = cc
form_brackets (b ∷ bs) e =
    let both = and_parts (opening b) (closed 1 bs) (and_parts (bracketed (b ∷ bs)) (spelled_out (b ∷ bs)) e).0 in
    and_from _ _
    ((bytes_eq-Decides (b ∷ []) (codes "(")).1 (ap (λ x. x ∷ []) (eqb-true b 40 both.0)))
    ((bytes_eq-Decides (drop (suc (length bs) - 1) (b ∷ bs)) (codes ")")).1
    (ap (λ n. drop n (b ∷ bs)) (less_one (length bs)) ∙ last_closes 1 b bs both.1))

abbrev first : List ℕ → ℕ
first bs = get_or bs 0 0

-- Bytes that begin and end with a bracket are the two brackets and what is inside.
brackets_around : (bs : List ℕ) → in_brackets bs ≡ true → bs ≡ 40 ∷ (inside bs ++ (41 ∷ []))
brackets_around [] e = cc
brackets_around (b ∷ []) e =
    let both = and_parts (bytes_eq (b ∷ []) (codes "(")) (bytes_eq (b ∷ []) (codes ")")) e in
    let opens : b ≡ 40 = ap first ((bytes_eq-Decides (b ∷ []) (codes "(")).0 both.0) in
    let closes : b ≡ 41 = ap first ((bytes_eq-Decides (b ∷ []) (codes ")")).0 both.1) in
    absurd (omega (arith, opens, closes))
brackets_around (b ∷ c ∷ cs) e =
    let both = and_parts (bytes_eq (b ∷ []) (codes "(")) (bytes_eq (drop (suc (suc (length cs)) - 1) (b ∷ c ∷ cs)) (codes ")")) e in
    let opens : b ≡ 40 = ap first ((bytes_eq-Decides (b ∷ []) (codes "(")).0 both.0) in
    let less = less_one (suc (length cs)) in
    let last = (bytes_eq-Decides (drop (suc (suc (length cs)) - 1) (b ∷ c ∷ cs)) (codes ")")).0 both.1 in
    let end : drop (length cs) (c ∷ cs) ≡ 41 ∷ [] = rw less at last in
    rw less
    (ap (λ x. x ∷ c ∷ cs) opens
    ∙ ap (λ xs. 40 ∷ xs) (sym (take-append-drop (length cs) (c ∷ cs)) ∙ ap (λ xs. take (length cs) (c ∷ cs) ++ xs) end))

no_form : (bs : List ℕ) → in_brackets bs ≡ false → formed bs ≡ false
no_form bs f = ⊎_elim (λ formed. formed ∙ sym (form_brackets bs formed) ∙ f) (λ no. no) (cases_Bool (formed bs))

none_or : {X : Type 0} (o : Option X) (t : Bool) → (is_some o ≡ true → t ≡ true) → cond t o None ≡ o
none_or None true found = refl
none_or None false found = refl
none_or (Some x) t found = ap (λ u. cond u (Some x) None) (found refl)

-- What stands in brackets and is no form says no call, so the brackets are all that has to be tested.
pub call_by_brackets : (bs : List ℕ) → call bs ≡ cond (in_brackets bs) (call_of_items (items 0 (inside bs))) None
call_by_brackets bs =
    let found = call_of_items (items 0 (inside bs)) in
    ⊎_elim
    (λ t.
    rw t (none_or found (formed bs) (λ some. subst (λ xs. formed xs ≡ true) (sym (brackets_around bs t)) (says_form (inside bs) some))))
    (λ f. let no = no_form bs f in rw (f, no))
    (cases_Bool (in_brackets bs))
