-- In the text that a sheet was read from, each at-line is where it stands.
use Rattle.std.proofs.Common.{◌≡◌, ℕ, List, [], ◌∷◌, length, map, take, drop, Ok, sym, refl, ap, ◌∙◌}
use Rattle.std.specs.List.{AllByRecursion}
use Rattle.std.proofs.lemmas.List.{drop-take}
use Rattle.sheet.specs.Ats.{AtLine, in_text, span}
use Rattle.sheet.specs.Laws.{CallsStand}
use Rattle.sheet.specs.Owned.{into_owned, set_in}
use Rattle.sheet.specs.Sheets.{Set, sheet_of}
use Rattle.sheet.proofs.Called.{sheets_have_calls}

-- An at-line that stands in a text is there again.
line_there : (text : List ℕ) (a : AtLine) → CallsStand text a → in_text text (span a) ≡ a
line_there text a calls =
    let bytes : take (length a.bytes) (drop a.position.byte text) ≡ a.bytes =
    sym (drop-take a.position.byte (length a.bytes) text) ∙ calls.stands in
    ap (λ (bs : List ℕ). record { clock = a.clock; position = a.position; bytes = bs }) bytes

lines_there : (text : List ℕ) (ats : List AtLine) → AllByRecursion (CallsStand text) ats → map (in_text text) (map span ats) ≡ ats
lines_there text [] stand = refl
lines_there text (a ∷ later) (here, rest) =
    ap (λ (b : AtLine). b ∷ map (in_text text) (map span later)) (line_there text a here)
    ∙ ap (λ (behind : List AtLine). a ∷ behind) (lines_there text later rest)

-- So the sheet of a text is the same when it has been apart from it.
pub set_there : (text : List ℕ) (set : Set) → sheet_of text ≡ Ok set → set_in text (into_owned set) ≡ set
set_there text set e =
    ap (λ (ats : List AtLine). record { table = set.table; queue = set.queue; ats = ats; ticks = set.ticks })
    (lines_there text set.ats (sheets_have_calls text set e).called)
