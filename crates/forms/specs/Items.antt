-- The items of a form, and the numbers among them.
use Rattle.std.specs.Prelude.{◌≡◌, ◌<◌, ◌≤◌, map, ℕ, zero, suc, ◌+◌, ◌-◌, ◌*◌, min, Bool, true, cond, not, ◌&&◌, List, [], ◌∷◌, length, take, drop, Some, None, Option, ◌==◌, nat_le, nat_lt}
use Rattle.std.specs.Option.{option_map}
use Rattle.forms.specs.declared.faults.Position.{Position}
use Rattle.forms.specs.declared.items.Items.{Items}
use Rattle.forms.specs.declared.lines.Part.{Part}
use Rattle.forms.specs.Forms.{closing, digit, empty, opening, space}
use Rattle.forms.specs.Grammar.{all_of}

-- What stands between a form's first and last byte.
abbrev pub inside : List ℕ → List ℕ
inside bs = drop 1 (take (length bs - 1) bs)

-- The number of open brackets after a byte.
abbrev pub open_after : ℕ → ℕ → ℕ
open_after depth b = cond (opening b) (depth + 1) (cond (closing b) (depth - 1) depth)

-- One byte more at the front of the first item.
abbrev pub item_begun_by : ℕ → List (List ℕ) → List (List ℕ)
item_begun_by b [] = (b ∷ []) ∷ []
item_begun_by b (i ∷ is) = (b ∷ i) ∷ is

-- The items of bytes before which so many brackets are open: the parts between the spaces that stand outside every bracket.
abbrev pub items : ℕ → List ℕ → List (List ℕ)
items depth [] = [] ∷ []
items depth (b ∷ bs) =
    cond (space b && depth == 0) ([] ∷ items 0 bs) (item_begun_by b (items (open_after depth b) bs))

-- The length of the first item, where so many brackets are open before it.
abbrev pub item_length : ℕ → List ℕ → ℕ
item_length depth [] = 0
item_length depth (b ∷ bs) = cond (space b && depth == 0) 0 (suc (item_length (open_after depth b) bs))

-- An item: its bytes, and the position of the first of them.
pub record Item : Type 0 where
  pub bytes : List ℕ
  pub position : Position

-- The item that a part of a text stands for.
abbrev pub item_of : Part → Item
item_of p = record { bytes = p.bytes.now; position = p.position }

-- So many bytes further in the same line.
abbrev pub further : Position → ℕ → Position
further p n = record { line = p.line; byte = p.byte + n }

-- Items one behind the other, with a space between any two, the first one at a position.
abbrev pub laid_out : Position → List (List ℕ) → List Item
laid_out p [] = []
laid_out p (i ∷ is) = record { bytes = i; position = p } ∷ laid_out (further p (length i + 1)) is

-- The bytes of items alone.
abbrev pub bytes_of : List Item → List (List ℕ)
bytes_of = map (λ i. i.bytes)

-- Where the inside of a form begins. What is shorter than two bytes has none, and its own position is given.
abbrev pub inside_position : Position → List ℕ → Position
inside_position p bs = cond (nat_le 2 (length bs)) (further p 1) p

-- The items of a form that stands at a position.
abbrev pub form_items : Position → List ℕ → List Item
form_items p bs = laid_out (inside_position p bs) (items 0 (inside bs))

-- The items that are still to be handed out: none, or those of what stands behind the last one and its space.
abbrev pub parts_of : Option Part → List Item
parts_of None = []
parts_of (Some part) = laid_out part.position (items 0 part.bytes.now)

abbrev pub parts_left : Items → List Item
parts_left r = parts_of r.rest

abbrev pub items_left : Items → List (List ℕ)
items_left r = bytes_of (parts_left r)

-- A part from one of its bytes on.
abbrev pub FromByte : Part → ℕ → Option Part → Type 0
FromByte p n None = length p.bytes.now < n
FromByte p n (Some q) = (n ≤ length p.bytes.now) × (q.bytes.now ≡ drop n p.bytes.now) × (q.position ≡ further p.position n)

-- A number: one digit or more, and nothing else.
abbrev pub is_number : List ℕ → Bool
is_number i = not (empty i) && all_of digit i

-- The largest number that a sheet may hold.
abbrev pub largest : ℕ
largest = 4294967295

-- The value of digits, the ones before them having the value v. Past the largest number it stays there; such a number
-- is refused.
abbrev pub value_after : ℕ → List ℕ → ℕ
value_after v [] = v
value_after v (b ∷ bs) = value_after (min (v * 10 + (b - 48)) largest) bs

abbrev pub value : List ℕ → ℕ
value i = value_after 0 i

-- Every run of digits is a number of at most ten digits and at most the largest: `count` digits of the value v stand
-- just before these bytes.
abbrev pub runs_fit : ℕ → ℕ → List ℕ → Bool
runs_fit count v [] = true
runs_fit count v (b ∷ bs) =
    cond (digit b)
    (nat_lt count 10 && (nat_le (v * 10 + (b - 48)) largest && runs_fit (count + 1) (v * 10 + (b - 48)) bs))
    (runs_fit 0 0 bs)

abbrev pub numbers_fit : List ℕ → Bool
numbers_fit bs = runs_fit 0 0 bs

-- The values of items that are exactly n numbers.
abbrev pub numbers : ℕ → List (List ℕ) → Option (List ℕ)
numbers zero [] = Some []
numbers (suc n) (i ∷ is) = cond (is_number i) (option_map (λ vs. value i ∷ vs) (numbers n is)) None
numbers n is = None
