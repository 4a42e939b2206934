-- Taking a text apart into lines, or a form into items, loses nothing and adds nothing.
use Rattle.std.proofs.Common.{◌≡◌, ℕ, suc, ◌+◌, false, not, ◌&&◌, eqb, List, [], ◌∷◌, length, sym, refl, ap, ◌∙◌, subst, inl, inr, ⊎_elim, arith}
use Rattle.std.specs.List.{flat_map}
use Rattle.std.proofs.lemmas.Bool.{and_from, and_parts, cases_Bool, eqb-true}
use Rattle.forms.specs.Forms.{space}
use Rattle.forms.specs.Items.{item_begun_by, items, open_after}
use Rattle.forms.specs.Laws.{Follow, LinesOf, TakenApart, spaced, with_end}
use Rattle.forms.specs.Lines.{Line, begun_by, lines, next_byte, next_line}
use Rattle.forms.specs.declared.faults.Position.{Position}
use Rattle.forms.proofs.Inside.{form_items}
use Rattle.forms.proofs.Itemized.{items_split}

-- One byte more at the front of the first line.
begun_whole : (b : ℕ) (p : Position) (ls : List Line) → flat_map with_end (begun_by b p ls) ≡ b ∷ flat_map with_end ls
begun_whole b p [] = refl
begun_whole b p (l ∷ ls) = refl

begun_follow : (b : ℕ) (p : Position) (ls : List Line) → eqb b 10 ≡ false → Follow (next_byte p) ls → Follow p (begun_by b p ls)
begun_follow b p [] plain follow = (refl, and_from _ _ (ap not plain) refl, inr refl, tt)
begun_follow b p (l ∷ ls) plain follow =
    let same : p.byte + 1 + length l.bytes + 1 ≡ p.byte + suc (length l.bytes) + 1 = omega arith in (
      refl,
      and_from _ _ (ap not plain) follow.1,
      follow.2,
      subst (λ (n : ℕ). Follow (record { line = p.line + 1; byte = n }) ls) same follow.3,
    )

lines_of : (p : Position) (text : List ℕ) → LinesOf p text
lines_of p [] = record { follow = tt; whole = refl }
lines_of p (b ∷ bs) =
    ⊎_elim
    (λ ends.
    let rest = lines_of (next_line p) bs in
    let same : p.byte + 1 ≡ p.byte + 0 + 1 = omega arith in
    record {
      follow =
          rw ends (refl, refl, inl refl, subst (λ (n : ℕ). Follow (record { line = p.line + 1; byte = n }) (lines (next_line p) bs)) same rest.follow);
      whole = rw ends (ap (λ (xs : List ℕ). 10 ∷ xs) rest.whole ∙ ap (λ (x : ℕ). x ∷ bs) (sym (eqb-true b 10 ends)));
    })
    (λ plain.
    let rest = lines_of (next_byte p) bs in
    record {
      follow = rw plain (begun_follow b p (lines (next_byte p) bs) plain rest.follow);
      whole = rw plain (begun_whole b p (lines (next_byte p) bs) ∙ ap (λ (xs : List ℕ). b ∷ xs) rest.whole);
    })
    (cases_Bool (eqb b 10))

-- One byte more at the front of the first item, and one item more.
begun_spaced : (b : ℕ) (is : List (List ℕ)) → spaced (item_begun_by b is) ≡ b ∷ spaced is
begun_spaced b [] = refl
begun_spaced b (i ∷ []) = refl
begun_spaced b (i ∷ j ∷ is) = refl

none_before : (is : List (List ℕ)) (j : List ℕ) (js : List (List ℕ)) → is ≡ j ∷ js → spaced ([] ∷ is) ≡ 32 ∷ spaced is
none_before is j js e = rw e

items_spaced : (depth : ℕ) (bs : List ℕ) → spaced (items depth bs) ≡ bs
items_spaced depth [] = refl
items_spaced depth (b ∷ bs) =
    ⊎_elim
    (λ cut.
    let is : b ≡ 32 = eqb-true b 32 (and_parts (space b) (eqb depth 0) cut).0 in
    rw cut
    (none_before (items 0 bs) _ _ (items_split 0 bs)
    ∙ ap (λ (xs : List ℕ). 32 ∷ xs) (items_spaced 0 bs)
    ∙ ap (λ (x : ℕ). x ∷ bs) (sym is)))
    (λ plain.
    rw plain
    (begun_spaced b (items (open_after depth b) bs) ∙ ap (λ (xs : List ℕ). b ∷ xs) (items_spaced (open_after depth b) bs)))
    (cases_Bool (space b && eqb depth 0))

pub taken_apart : TakenApart
taken_apart = record { by_lines = lines_of; by_items = items_spaced; of_form = λ deepest bs reads. form_items reads refl }
