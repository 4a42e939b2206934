-- The at-lines of a sheet have calls that stand in the text, and come before the end. Every line of a text stands in it at its position,
-- and only a line with the word `at`, a clock and one call or more says an at-line; so each line that is read keeps what holds of the
-- at-lines so far.
use Rattle.std.proofs.Common.{◌≡◌, ℕ, suc, ◌+◌, ◌<◌, Bool, true, false, cond, ◌&&◌, ltb, List, [], ◌∷◌, ◌++◌, length, take, drop, is_some, Some, None, Ok, Option, unwrap_or, sym, refl, ap, ◌∙◌, subst, ⊎_elim, arith, length-append}
use Rattle.std.specs.List.{flat_map, AllByRecursion}
use Rattle.std.specs.Option.{option_map}
use Rattle.std.proofs.ByRecursion.{All-push}
use Rattle.std.proofs.lemmas.List.{append_assoc, drop_at, drop-take, take_at}
use Rattle.std.proofs.lemmas.Bool.{and_parts, cases_Bool, cond-true, ltb-true}
use Rattle.model.specs.declared.calls.Call.{Call}
use Rattle.forms.specs.Forms.{is_remark}
use Rattle.forms.specs.Items.{inside, is_number, items, numbers}
use Rattle.forms.specs.Laws.{Follow, behind, with_end}
use Rattle.forms.specs.Lines.{Line, first_position, lines}
use Rattle.forms.specs.Sayings.{all_calls, at_said, call, duty_said, end_said, queue_said, said, said_by_items, says, sheet_of_numbers, some_calls}
use Rattle.forms.specs.declared.faults.Position.{Position}
use Rattle.forms.specs.declared.sayings.QueueName.TheVariants.{First, Worth}
use Rattle.forms.specs.declared.sayings.Said.{Said}
use Rattle.forms.specs.declared.sayings.Said.TheVariants.{Sheet, Queue, At as AtClock, Remark}
use Rattle.forms.proofs.Apart.{taken_apart}
use Rattle.sheet.specs.Ats.{AtLine, behind_first, leading_calls}
use Rattle.sheet.specs.Laws.{CallsStand, CallsBeforeEnd, SheetsHaveCalls}
use Rattle.sheet.specs.Orders.{SoFar, at_line, line_judged, nothing_read, with_said}
use Rattle.sheet.specs.Sheets.{late}
use Rattle.sheet.proofs.Kept.{lines_keep, text_is_read, taken_up}

-- A line stands in the text at its position.
abbrev Stands : List ℕ → Line → Type 0
Stands text l = drop l.position.byte (take (l.position.byte + length l.bytes) text) ≡ l.bytes

cut_out : (before bytes end rest : List ℕ) (n : ℕ) → length before ≡ n
    → drop n (take (n + length bytes) (before ++ ((bytes ++ end) ++ rest))) ≡ bytes
cut_out before bytes end rest n size =
    drop-take n (length bytes) (before ++ ((bytes ++ end) ++ rest))
    ∙ ap (take (length bytes)) (drop_at before ((bytes ++ end) ++ rest) n size ∙ append_assoc bytes end rest)
    ∙ take_at bytes (end ++ rest) (length bytes) refl

-- Lines that follow each other behind some bytes stand in the text that they make.
stand : (before : List ℕ) (p : Position) (ls : List Line) → length before ≡ p.byte → Follow p ls
    → AllByRecursion (Stands (before ++ flat_map with_end ls)) ls
stand before p [] size follow = tt
stand before p (l ∷ ls) size follow =
    let rest = flat_map with_end ls in (
      subst (λ (q : Position). drop q.byte (take (q.byte + length l.bytes) (before ++ (with_end l ++ rest))) ≡ l.bytes) (sym follow.0)
          (cut_out before l.bytes (cond l.ended (10 ∷ []) []) rest p.byte size),
      ⊎_elim
          (λ ended.
          let end : length (cond l.ended (10 ∷ []) []) ≡ 1 = ap (λ (t : Bool). length {A = ℕ} (cond t (10 ∷ []) [])) ended in
          let longer : length (before ++ with_end l) ≡ p.byte + length l.bytes + 1 =
          omega (arith, length-append before (with_end l), length-append l.bytes (cond l.ended (10 ∷ []) [])) in
          subst (λ (text : List ℕ). AllByRecursion (Stands text) ls) (append_assoc before (with_end l) rest)
          (stand (before ++ with_end l) (behind p l) ls longer follow.3))
          (λ last. subst (λ (xs : List Line). AllByRecursion (Stands (before ++ (with_end l ++ flat_map with_end xs))) xs) (sym last) tt)
          follow.2,
    )

-- Where every item is a call, all of them are handed out.
first_call : (o : Option Call) (is : List (List ℕ)) → is_some o ≡ true → length (leading_calls is) ≡ length is
    → length (elim o as (λ x. List Call) [ None ↦ [] | Some c ↦ c ∷ leading_calls is ]) ≡ suc (length is)
first_call None is stands rest = cc
first_call (Some c) is stands rest = ap suc rest

every_call : (is : List (List ℕ)) → all_calls is ≡ true → length (leading_calls is) ≡ length is
every_call [] all = refl
every_call (i ∷ is) all =
    let both = and_parts (is_some (call i)) (all_calls is) all in
    first_call (call i) is both.0 (every_call is both.1)

some_handed_out : (is : List (List ℕ)) → some_calls is ≡ true
    → (0 < length (leading_calls is)) × (length (leading_calls is) ≡ length is)
some_handed_out [] all = cc
some_handed_out (i ∷ is) all = let same = every_call (i ∷ is) all in (omega arith, same)

-- Only the word `at` says an at-line.
module _ {P : Type 0} (clock : ℕ) where
  either : (t : Bool) (x y : Option Said) → (x ≡ Some (AtClock clock) → P) → (y ≡ Some (AtClock clock) → P) → cond t x y ≡ Some (AtClock clock) → P
  either true x y first second e = first e
  either false x y first second e = second e

  no_sheet : (o : Option (List ℕ)) → sheet_of_numbers o ≡ Some (AtClock clock) → P
  no_sheet None e = cc
  no_sheet (Some vs) e = either _ (Some Sheet) None (λ no. cc) (λ no. cc) e

  no_duty : (o : Option (List ℕ)) → option_map duty_said o ≡ Some (AtClock clock) → P
  no_duty None e = cc
  no_duty (Some vs) e = cc

  no_end : (o : Option (List ℕ)) → option_map end_said o ≡ Some (AtClock clock) → P
  no_end None e = cc
  no_end (Some vs) e = cc

  no_queue : (is : List (List ℕ)) → queue_said is ≡ Some (AtClock clock) → P
  no_queue [] e = cc
  no_queue (name ∷ []) e = either _ (Some (Queue First)) _ (λ no. cc) (either _ (Some (Queue Worth)) None (λ no. cc) (λ no. cc)) e
  no_queue (name ∷ i ∷ is) e = cc

at_has_calls : (clock : ℕ) (is : List (List ℕ)) → at_said is ≡ Some (AtClock clock) → some_calls (behind_first is) ≡ true
at_has_calls clock [] e = cc
at_has_calls clock (i ∷ is) e =
    ⊎_elim
    (λ t. (and_parts (is_number i) (some_calls is) t).1)
    (λ f. let none = rw f at e in cc)
    (cases_Bool (is_number i && some_calls is))

by_items : (clock : ℕ) (is : List (List ℕ)) → said_by_items is ≡ Some (AtClock clock)
    → some_calls (behind_first (behind_first is)) ≡ true
by_items clock [] e = cc
by_items clock (word ∷ is) e =
    either clock _ _ _ (no_sheet clock (numbers 1 is))
    (either clock _ _ _ (no_duty clock (numbers 4 is))
    (either clock _ _ _ (no_queue clock is)
    (either clock _ _ _ (at_has_calls clock is) (either clock _ _ None (no_end clock (numbers 1 is)) (λ no. cc)))))
    e

said_at : (bs : List ℕ) (clock : ℕ) → said bs ≡ Some (AtClock clock)
    → some_calls (behind_first (behind_first (items 0 (inside bs)))) ≡ true
said_at bs clock e = either clock (is_remark bs) (Some Remark) _ (λ no. cc) (by_items clock (items 0 (inside bs))) e

value_at : (o : Option Said) (clock : ℕ) → unwrap_or o Remark ≡ AtClock clock → o ≡ Some (AtClock clock)
value_at None clock e = cc
value_at (Some x) clock e = ap Some e

-- These bytes of an at-line have one call or more behind the clock, and nothing else.
abbrev HandedOut : List ℕ → Type 0
HandedOut bs =
    (0 < length (leading_calls (behind_first (behind_first (items 0 (inside bs))))))
    × (length (leading_calls (behind_first (behind_first (items 0 (inside bs))))) ≡ length (behind_first (behind_first (items 0 (inside bs)))))

line_calls : (text : List ℕ) (l : Line) (clock : ℕ) → Stands text l → says l ≡ AtClock clock → CallsStand text (at_line clock l)
line_calls text l clock stands e =
    let handed : HandedOut l.bytes = some_handed_out _ (said_at l.bytes clock (value_at (said l.bytes) clock e)) in
    record { stands = stands; some = handed.0; every = handed.1 }

-- Each line keeps the calls of the at-lines so far.
with_calls : (text : List ℕ) (s : SoFar) (l : Line) (x : Said) → AllByRecursion (CallsStand text) s.ats
    → ((clock : ℕ) → x ≡ AtClock clock → CallsStand text (at_line clock l)) → AllByRecursion (CallsStand text) (with_said s l x).ats
with_calls text s l (AtClock clock) all new = All-push (CallsStand text) s.ats (at_line clock l) all (new clock refl)
with_calls text s l what all new = all

-- With lines still to come that stand in the text, the calls of the at-lines so far stand there.
abbrev Standing : List ℕ → List Line → SoFar → Type 0
Standing text ls s = AllByRecursion (Stands text) ls × AllByRecursion (CallsStand text) s.ats

one_more : (text : List ℕ) (s u : SoFar) (l : Line) (ls : List Line) → line_judged s l ≡ Ok u → Standing text (l ∷ ls) s → Standing text ls u
one_more text s u l ls judged ((here, rest), called) = (
  rest,
  subst (λ (v : SoFar). AllByRecursion (CallsStand text) v.ats) (sym (taken_up s u l judged).adds)
      (with_calls text s l (says l) called (λ clock e. line_calls text l clock here e)),
)

-- No at-line is late.
on_time : (ticks : ℕ) (ats : List AtLine) → late ticks ats ≡ None → AllByRecursion (λ (a : AtLine). a.clock < ticks) ats
on_time ticks [] e = tt
on_time ticks (a ∷ later) e =
    ⊎_elim
    (λ before. (ltb-true _ _ before, on_time ticks later (sym (cond-true _ _ _ before) ∙ e)))
    (λ over. let no = rw over at e in cc)
    (cases_Bool (ltb a.clock ticks))

-- Every line of a text stands in it.
text_stands : (text : List ℕ) → AllByRecursion (Stands text) (lines first_position text)
text_stands text =
    let made = taken_apart.by_lines first_position text in
    subst (λ (xs : List ℕ). AllByRecursion (Stands xs) (lines first_position text)) made.whole
    (stand [] first_position (lines first_position text) refl made.follow)

pub sheets_have_calls : SheetsHaveCalls
sheets_have_calls text set e =
    let read = text_is_read text set e in
    let standing = lines_keep (Standing text) (one_more text) (lines first_position text) nothing_read read.last (text_stands text, tt) read.lines in
    subst (CallsBeforeEnd text) (sym read.is) (record { called = standing.1; before_end = on_time read.last.ticks read.last.ats read.in_time })
