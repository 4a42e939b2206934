-- The sizes of a sheet: at most 256 at-lines, 10,000 ticks and sixteen rows, and no more bytes of at-lines than the text has. Each line that
-- is read keeps these bounds.
use Rattle.std.proofs.Common.{◌≡◌, ℕ, ◌+◌, ◌≤◌, Bool, true, cond, ◌&&◌, List, [], ◌∷◌, length, Some, None, Ok, unwrap_or, sym, ap, subst, ⊎_elim, arith, length-append}
use Rattle.std.specs.List.{flat_map, sum_by}
use Rattle.std.proofs.lemmas.Bool.{and_parts, leb-true, ltb-true, or_cases}
use Rattle.std.proofs.lemmas.List.Sums.{sum_by_push}
use Rattle.forms.specs.Forms.{is_remark}
use Rattle.forms.specs.Items.{inside, items, numbers_fit}
use Rattle.forms.specs.Laws.{with_end}
use Rattle.forms.specs.Lines.{Line, first_position, lines}
use Rattle.forms.specs.Sayings.{end_fits, fault_15, said_by_items, says}
use Rattle.forms.specs.declared.sayings.Said.{Said}
use Rattle.forms.specs.declared.sayings.Said.TheVariants.{At as AtClock, End, Remark}
use Rattle.forms.proofs.Apart.{taken_apart}
use Rattle.forms.proofs.Lengths.{line_within}
use Rattle.model.proofs.Admitted.{admitted_says}
use Rattle.sheet.specs.Ats.{AtLine}
use Rattle.sheet.specs.Orders.{SoFar, at_line, has_room, line_judged, nothing_read, with_said}
use Rattle.sheet.specs.Sheets.{Set, sheet_of}
use Rattle.sheet.proofs.Kept.{lines_keep, unless_none, text_is_read, taken_up}
use Rattle.sheet.proofs.Tables.{sheet_admitted}

-- How many bytes at-lines have.
abbrev pub byte_count : List AtLine → ℕ
byte_count = sum_by (λ a. length a.bytes)

-- A line that has no fault of numbers says no end past 10,000.
end_is_near : (l : Line) → fault_15 l ≡ None → end_fits (says l) ≡ true
end_is_near l none =
    ⊎_elim (λ remark. ap (λ (t : Bool). end_fits (unwrap_or (cond t (Some Remark) (said_by_items (items 0 (inside l.bytes)))) Remark)) remark)
    (λ both. (and_parts (numbers_fit l.bytes) (end_fits (says l)) both).1)
    (or_cases (is_remark l.bytes) (numbers_fit l.bytes && end_fits (says l)) (unless_none _ _ none))

-- A sheet as far as it is read, of a text of so many bytes, with these lines still to come.
pub record SmallSoFar (bytes : ℕ) (ls : List Line) (s : SoFar) : Type 0 where
  pub within : byte_count s.ats + length (flat_map with_end ls) ≤ bytes
  pub ats : length s.ats ≤ 256
  pub ticks : s.ticks ≤ 10000

module _ (bytes : ℕ) (s : SoFar) (l : Line) (ls : List Line) (before : SmallSoFar bytes (l ∷ ls) s) where
  bytes_within : (x : Said) → byte_count (with_said s l x).ats + length (flat_map with_end ls) ≤ bytes
  bytes_within (AtClock clock) =
      omega (arith, before.within, line_within l ls, sum_by_push (λ (a : AtLine). length a.bytes) s.ats (at_line clock l))
  bytes_within x = omega (arith, before.within, line_within l ls)

  few_ats : (x : Said) → has_room s.ats x ≡ true → length (with_said s l x).ats ≤ 256
  few_ats (AtClock clock) room = omega (arith, ltb-true _ _ room, length-append s.ats (at_line clock l ∷ []))
  few_ats x room = before.ats

  few_ticks : (x : Said) → end_fits x ≡ true → (with_said s l x).ticks ≤ 10000
  few_ticks (End ticks) fits = leb-true _ _ fits
  few_ticks x fits = before.ticks

small_after : (bytes : ℕ) (s u : SoFar) (l : Line) (ls : List Line) → line_judged s l ≡ Ok u → SmallSoFar bytes (l ∷ ls) s → SmallSoFar bytes ls u
small_after bytes s u l ls judged before =
    let taken = taken_up s u l judged in
    subst (SmallSoFar bytes ls) (sym taken.adds)
    (record {
      within = bytes_within bytes s l ls before (says l);
      ats = few_ats bytes s l ls before (says l) (unless_none _ _ taken.room);
      ticks = few_ticks bytes s l ls before (says l) (end_is_near l taken.numbers);
    })

-- The bounds of a sheet that was read.
pub record SmallSheet (set : Set) : Type 0 where
  pub bytes : byte_count set.ats ≤ 32768
  pub ats : length set.ats ≤ 256
  pub ticks : set.ticks ≤ 10000
  pub rows : length set.table ≤ 16

pub sheet_is_small : (text : List ℕ) (set : Set) → sheet_of text ≡ Ok set → SmallSheet set
sheet_is_small text set e =
    let read = text_is_read text set e in
    let all : SmallSoFar (length text) (lines first_position text) nothing_read =
    record { within = omega (arith, ap length (taken_apart.by_lines first_position text).whole); ats = omega arith; ticks = omega arith } in
    let small = lines_keep (SmallSoFar (length text)) (small_after (length text)) (lines first_position text) nothing_read read.last all read.lines in
    let few : length read.last.table ≤ 16 =
    subst (λ (s : Set). length s.table ≤ 16) read.is (admitted_says set.table (sheet_admitted text set e)).few in
    subst SmallSheet (sym read.is)
    (record { bytes = omega (arith, small.within, read.short); ats = small.ats; ticks = small.ticks; rows = few })
