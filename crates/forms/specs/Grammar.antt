-- What a form is, as a grammar: an opening bracket, a word, items with one space before each, and a closing bracket; an
-- item is a number, a word or a form. The law says that a line is such a form exactly if its
-- brackets pair up and each of its bytes may stand after the one before it.
use Rattle.std.specs.Prelude.{◌≡◌, ℕ, ◌<◌, Bool, true, ◌&&◌, List, [], ◌∷◌, ◌++◌, Decides}
use Rattle.forms.specs.Forms.{bracketed, digit, letter, spelled_out}

-- Every byte passes a test.
abbrev pub all_of : (ℕ → Bool) → List ℕ → Bool
all_of passes [] = true
all_of passes (b ∷ bs) = passes b && all_of passes bs

pub data Kind : Type 0 where
  form : Kind
  item : Kind
  items : Kind

-- The bytes are a form, an item, or any number of items with a space before each, nested at most so deep.
pub data Reads : Kind → ℕ → List ℕ → Type 0 where
  bracket : {n m : ℕ} (w : ℕ) (ws rest : List ℕ) → n < m → letter w ≡ true → all_of letter ws ≡ true → Reads items n rest
      → Reads form m (40 ∷ (w ∷ (ws ++ (rest ++ (41 ∷ [])))))
  word : {m : ℕ} (w : ℕ) (ws : List ℕ) → letter w ≡ true → all_of letter ws ≡ true → Reads item m (w ∷ ws)
  number : {m : ℕ} (d : ℕ) (ds : List ℕ) → digit d ≡ true → all_of digit ds ≡ true → Reads item m (d ∷ ds)
  nested : {m : ℕ} {bs : List ℕ} → Reads form m bs → Reads item m bs
  none : {m : ℕ} → Reads items m []
  more : {m : ℕ} (i rest : List ℕ) → Reads item m i → Reads items m rest → Reads items m (32 ∷ (i ++ rest))

-- A line's brackets pair up and its bytes may stand one after the other exactly if it is a form that nests at most 16
-- deep.
abbrev pub FormsByGrammar : Type 0
FormsByGrammar = (bs : List ℕ) → Decides (bracketed bs && spelled_out bs) (Reads form 16 bs)
