-- Which lines are forms. A form is an opening bracket, a word, items with one space before each, and a closing
-- bracket; an item is a number, a word or a form.
use Rattle.std.specs.Prelude.{ℕ, ◌+◌, ◌-◌, Bool, true, false, cond, ◌&&◌, ◌||◌, List, [], ◌∷◌, length, take, drop, codes, ◌==◌, nat_le, nat_lt}
use Rattle.std.specs.Str.{bytes_eq}

abbrev pub space : ℕ → Bool
space b = b == 32

abbrev pub opening : ℕ → Bool
opening b = b == 40

abbrev pub closing : ℕ → Bool
closing b = b == 41

abbrev pub letter : ℕ → Bool
letter b = nat_le 97 b && nat_le b 122

abbrev pub digit : ℕ → Bool
digit b = nat_le 48 b && nat_le b 57

-- What may stand after a byte of a form.
abbrev pub may_follow : ℕ → ℕ → Bool
may_follow a b =
    cond (opening a) (letter b)
    (cond (letter a) (letter b || space b || closing b)
    (cond (digit a) (digit b || space b || closing b)
    (cond (space a) (letter b || digit b || opening b)
    (cond (closing a) (space b || closing b) false))))

-- Each byte may stand after the one before it, the first one after a.
abbrev pub spelled : ℕ → List ℕ → Bool
spelled a [] = true
spelled a (b ∷ bs) = may_follow a b && spelled b bs

abbrev pub empty : List ℕ → Bool
empty [] = true
empty (b ∷ bs) = false

-- With so many brackets open, the last byte closes the first of them, and there are never more than 16.
abbrev pub closed : ℕ → List ℕ → Bool
closed depth [] = false
closed depth (b ∷ bs) =
    cond (opening b) (nat_lt depth 16 && closed (depth + 1) bs)
    (cond (closing b) (cond (depth == 1) (empty bs) (closed (depth - 1) bs))
    (closed depth bs))

-- The first byte is a bracket, which the last byte closes; brackets pair up, at most 16 deep.
abbrev pub bracketed : List ℕ → Bool
bracketed [] = false
bracketed (b ∷ bs) = opening b && closed 1 bs

-- The first byte is an opening bracket, and another one, the last, is a closing bracket.
abbrev pub in_brackets : List ℕ → Bool
in_brackets bs = bytes_eq (take 1 bs) (codes "(") && bytes_eq (drop (length bs - 1) bs) (codes ")")

-- Each byte may stand after the one before it.
abbrev pub spelled_out : List ℕ → Bool
spelled_out [] = true
spelled_out (b ∷ bs) = spelled b bs

-- A line that begins as a remark; its text is free.
abbrev pub is_remark : List ℕ → Bool
is_remark bs = bytes_eq (take 8 bs) (codes "(remark ") || bytes_eq (take 8 bs) (codes "(remark)")

-- A form, or a remark.
abbrev pub is_form : List ℕ → Bool
is_form bs = bracketed bs && (is_remark bs || spelled_out bs)
