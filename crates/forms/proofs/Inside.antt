-- The items of a form are its word and the items that the grammar reads. By induction over what the grammar reads: an item stays in one
-- piece, since each space in it stands inside a bracket, and the spaces between items stand outside all inner brackets.
use Rattle.std.proofs.Common.{◌≡◌, ℕ, suc, ◌+◌, ◌-◌, ◌≤◌, true, List, [], ◌∷◌, ◌++◌, length, take, drop, sym, refl, ap, ◌∙◌, arith, length-append}
use Rattle.std.specs.List.{AllByRecursion}
use Rattle.std.proofs.lemmas.List.{append_assoc, append-nil, take_at}
use Rattle.std.proofs.lemmas.Bool.{and_from, and_parts}
use Rattle.std.proofs.lemmas.Bool.Decides.{nat_tests}
use Rattle.forms.specs.Forms.{digit, letter}
use Rattle.forms.specs.Grammar.{Kind, Reads, all_of, form, item, items as some_items, bracket, word, number, nested, none, more}
use Rattle.forms.specs.Items.{inside, item_begun_by, items}
use Rattle.forms.specs.Laws.{FormItems}
use Rattle.forms.proofs.Itemized.{items_split}

-- Bytes at the front of the first item.
abbrev begun : List ℕ → List (List ℕ) → List (List ℕ)
begun bs [] = bs ∷ []
begun bs (i ∷ is) = (bs ++ i) ∷ is

one_begun : (b : ℕ) (bs : List ℕ) (is : List (List ℕ)) → item_begun_by b (begun bs is) ≡ begun (b ∷ bs) is
one_begun b bs [] = refl
one_begun b bs (i ∷ is) = refl

just_one : (b : ℕ) (is : List (List ℕ)) → item_begun_by b is ≡ begun (b ∷ []) is
just_one b [] = refl
just_one b (i ∷ is) = refl

begun_twice : (xs ys : List ℕ) (is : List (List ℕ)) → begun xs (begun ys is) ≡ begun (xs ++ ys) is
begun_twice xs ys [] = refl
begun_twice xs ys (i ∷ is) = ap (λ zs. zs ∷ is) (sym (append_assoc xs ys i))

none_begun : (is : List (List ℕ)) (j : List ℕ) (js : List (List ℕ)) → is ≡ j ∷ js → is ≡ begun [] is
none_begun is j js e = rw e

letter_on : (depth b : ℕ) (bs : List ℕ) → letter b ≡ true → items depth (b ∷ bs) ≡ item_begun_by b (items depth bs)
letter_on depth b bs l = grind (arith, nat_tests)

digit_on : (depth b : ℕ) (bs : List ℕ) → digit b ≡ true → items depth (b ∷ bs) ≡ item_begun_by b (items depth bs)
digit_on depth b bs l = grind (arith, nat_tests)

space_on : (depth : ℕ) (bs : List ℕ) → 1 ≤ depth → items depth (32 ∷ bs) ≡ item_begun_by 32 (items depth bs)
space_on depth bs some = grind (arith, nat_tests)

closing_on : (depth : ℕ) (bs : List ℕ) → items (depth + 1) (41 ∷ bs) ≡ item_begun_by 41 (items depth bs)
closing_on depth bs =
    let back : depth + 1 - 1 ≡ depth = omega arith in
    ap (λ (d : ℕ). item_begun_by 41 (items d bs)) back

letters_on : (depth : ℕ) (ws rest : List ℕ) → all_of letter ws ≡ true → items depth (ws ++ rest) ≡ begun ws (items depth rest)
letters_on depth [] rest all = none_begun (items depth rest) _ _ (items_split depth rest)
letters_on depth (w ∷ ws) rest all =
    let both = and_parts (letter w) (all_of letter ws) all in
    letter_on depth w (ws ++ rest) both.0
    ∙ ap (item_begun_by w) (letters_on depth ws rest both.1)
    ∙ one_begun w ws (items depth rest)

digits_on : (depth : ℕ) (ds rest : List ℕ) → all_of digit ds ≡ true → items depth (ds ++ rest) ≡ begun ds (items depth rest)
digits_on depth [] rest all = none_begun (items depth rest) _ _ (items_split depth rest)
digits_on depth (d ∷ ds) rest all =
    let both = and_parts (digit d) (all_of digit ds) all in
    digit_on depth d (ds ++ rest) both.0
    ∙ ap (item_begun_by d) (digits_on depth ds rest both.1)
    ∙ one_begun d ds (items depth rest)

-- What the grammar reads stays in one item: a form and an item at any depth, items inside a bracket.
abbrev Stays : Kind → List ℕ → Type 0
Stays form bs = (depth : ℕ) (rest : List ℕ) → items depth (bs ++ rest) ≡ begun bs (items depth rest)
Stays item bs = (depth : ℕ) (rest : List ℕ) → items depth (bs ++ rest) ≡ begun bs (items depth rest)
Stays some_items bs = (depth : ℕ) (rest : List ℕ) → 1 ≤ depth → items depth (bs ++ rest) ≡ begun bs (items depth rest)

shifted : (ws inner rest : List ℕ) → (ws ++ (inner ++ (41 ∷ []))) ++ rest ≡ ws ++ (inner ++ (41 ∷ rest))
shifted ws inner rest =
    append_assoc ws (inner ++ (41 ∷ [])) rest ∙ ap (λ (xs : List ℕ). ws ++ xs) (append_assoc inner (41 ∷ []) rest)

stays : {k : Kind} {m : ℕ} {bs : List ℕ} → Reads k m bs → Stays k bs
stays (bracket w ws inner lt l all reads) = λ depth rest.
    let is = items depth rest in
    let last : items (depth + 1) (41 ∷ rest) ≡ begun (41 ∷ []) is = closing_on depth rest ∙ just_one 41 is in
    let within : items (depth + 1) (inner ++ (41 ∷ rest)) ≡ begun (inner ++ (41 ∷ [])) is =
    stays reads (depth + 1) (41 ∷ rest) (omega arith) ∙ ap (begun inner) last ∙ begun_twice inner (41 ∷ []) is in
    let whole : items (depth + 1) ((ws ++ (inner ++ (41 ∷ []))) ++ rest) ≡ begun (ws ++ (inner ++ (41 ∷ []))) is =
    ap (items (depth + 1)) (shifted ws inner rest)
    ∙ letters_on (depth + 1) ws (inner ++ (41 ∷ rest)) all
    ∙ ap (begun ws) within
    ∙ begun_twice ws (inner ++ (41 ∷ [])) is in
    ap (item_begun_by 40)
    (letter_on (depth + 1) w ((ws ++ (inner ++ (41 ∷ []))) ++ rest) l
    ∙ ap (item_begun_by w) whole
    ∙ one_begun w (ws ++ (inner ++ (41 ∷ []))) is)
    ∙ one_begun 40 (w ∷ (ws ++ (inner ++ (41 ∷ [])))) is
stays (word w ws l all) = λ depth rest. letters_on depth (w ∷ ws) rest (and_from (letter w) (all_of letter ws) l all)
stays (number d ds l all) = λ depth rest. digits_on depth (d ∷ ds) rest (and_from (digit d) (all_of digit ds) l all)
stays (nested reads) = stays reads
stays none = λ depth rest some. none_begun (items depth rest) _ _ (items_split depth rest)
stays (more i inner first later) = λ depth rest some.
    space_on depth ((i ++ inner) ++ rest) some
    ∙ ap (item_begun_by 32)
    (ap (items depth) (append_assoc i inner rest)
    ∙ stays first depth (inner ++ rest)
    ∙ ap (begun i) (stays later depth rest some)
    ∙ begun_twice i inner (items depth rest))
    ∙ one_begun 32 (i ++ inner) (items depth rest)

-- Spaces outside all brackets stand between two items.
record Parted (n : ℕ) (bs : List ℕ) : Type 0 where
  others : List (List ℕ)
  whole : items 0 bs ≡ [] ∷ others
  read : AllByRecursion (Reads item n) others

parted : {k : Kind} {n : ℕ} {bs : List ℕ} → Reads k n bs → k ≡ some_items → Parted n bs
parted (bracket w ws inner lt l all reads) is_items = cc
parted (word w ws l all) is_items = cc
parted (number d ds l all) is_items = cc
parted (nested reads) is_items = cc
parted none is_items = record { others = []; whole = refl; read = tt }
parted (more i rest first later) is_items =
    let r = parted later refl in
    record {
      others = i ∷ r.others;
      whole = ap (λ js. [] ∷ js) (stays first 0 rest ∙ ap (begun i) r.whole ∙ ap (λ xs. xs ∷ r.others) (append-nil i));
      read = (first, r.read);
    }

inside_of : (bs : List ℕ) → inside (40 ∷ (bs ++ (41 ∷ []))) ≡ bs
inside_of bs =
    let size : length (40 ∷ (bs ++ (41 ∷ []))) - 1 ≡ suc (length bs) = omega (arith, length-append bs (41 ∷ [])) in
    ap (λ (n : ℕ). drop 1 (take n (40 ∷ (bs ++ (41 ∷ []))))) size ∙ take_at bs (41 ∷ []) (length bs) refl

pub form_items : {k : Kind} {m : ℕ} {bs : List ℕ} → Reads k m bs → k ≡ form → FormItems m (items 0 (inside bs))
form_items (bracket {n = n} w ws inner lt l all reads) is_form =
    let r = parted reads refl in
    let bytes : inside (40 ∷ (w ∷ (ws ++ (inner ++ (41 ∷ []))))) ≡ w ∷ (ws ++ inner) =
    ap (λ (xs : List ℕ). inside (40 ∷ (w ∷ xs))) (sym (append_assoc ws inner (41 ∷ []))) ∙ inside_of (w ∷ (ws ++ inner)) in
    record {
      word = w ∷ ws;
      others = r.others;
      whole =
          ap (items 0) bytes
          ∙ letters_on 0 (w ∷ ws) inner (and_from (letter w) (all_of letter ws) l all)
          ∙ ap (begun (w ∷ ws)) r.whole
          ∙ ap (λ xs. (w ∷ xs) ∷ r.others) (append-nil ws);
      is_word = and_from (letter w) (all_of letter ws) l all;
      deep = n;
      less = lt;
      read = r.read;
    }
form_items (word w ws l all) is_form = cc
form_items (number d ds l all) is_form = cc
form_items (nested reads) is_form = cc
form_items none is_form = cc
form_items (more i inner first later) is_form = cc
