-- Laws of lines and items: taking a text apart loses nothing and adds nothing, and the items of a form are those that the grammar reads.
use Rattle.std.specs.Prelude.{◌≡◌, ℕ, ◌+◌, ◌<◌, true, cond, not, ◌&&◌, ◌⊎◌, List, [], ◌∷◌, ◌++◌, length, ◌==◌}
use Rattle.std.specs.List.{flat_map, AllByRecursion}
use Rattle.forms.specs.Forms.{empty, letter}
use Rattle.forms.specs.Grammar.{Reads, all_of, form, item}
use Rattle.forms.specs.Items.{inside, items}
use Rattle.forms.specs.Lines.{Line, lines}
use Rattle.forms.specs.declared.faults.Position.{Position}

-- A line with the 10 that ends it.
abbrev pub with_end : Line → List ℕ
with_end l = l.bytes ++ cond l.ended (10 ∷ []) []

-- The position behind a line and its 10.
abbrev pub behind : Position → Line → Position
behind p l = record { line = p.line + 1; byte = p.byte + length l.bytes + 1 }

-- Lines from a position on: each stands behind the one before it, holds no 10, and ends with one unless it is the last.
abbrev pub Follow : Position → List Line → Type 0
Follow p [] = Unit {0}
Follow p (l ∷ ls) =
    (l.position ≡ p) × (all_of (λ b. not (b == 10)) l.bytes ≡ true) × ((l.ended ≡ true) ⊎ (ls ≡ [])) × Follow (behind p l) ls

-- The lines of a text follow each other, and joined they are the text.
pub record LinesOf (p : Position) (text : List ℕ) : Type 0 where
  pub follow : Follow p (lines p text)
  pub whole : flat_map with_end (lines p text) ≡ text

-- Items with a space between any two.
abbrev pub spaced : List (List ℕ) → List ℕ
spaced [] = []
spaced (i ∷ []) = i
spaced (i ∷ j ∷ is) = i ++ (32 ∷ spaced (j ∷ is))

-- The items of a form that nests at most so deep: its word, and behind it words, numbers and forms that nest less deep.
pub record FormItems (deepest : ℕ) (is : List (List ℕ)) : Type 0 where
  pub word : List ℕ
  pub others : List (List ℕ)
  pub whole : is ≡ word ∷ others
  pub is_word : (not (empty word) && all_of letter word) ≡ true
  pub deep : ℕ
  pub less : deep < deepest
  pub read : AllByRecursion (Reads item deep) others

-- Both, for every text; and what the items of a form are.
pub record TakenApart : Type 0 where
  pub by_lines : (p : Position) (text : List ℕ) → LinesOf p text
  pub by_items : (depth : ℕ) (bs : List ℕ) → spaced (items depth bs) ≡ bs
  pub of_form : (deepest : ℕ) (bs : List ℕ) → Reads form deepest bs → FormItems deepest (items 0 (inside bs))
