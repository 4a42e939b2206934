-- The end line of lines without a fault, and the first at-line whose clock is not before the end. Behind the end line only remarks may
-- come, so the ticks that it sets stay; and the at-lines that lines have set stand in the order of these lines, so the first late one can
-- be looked for among the lines.
use Rattle.std.proofs.Common.{◌≡◌, ℕ, ◌<◌, ◌≤◌, Bool, true, false, cond, ltb, ◌⊎◌, List, [], ◌∷◌, ◌++◌, Some, None, Option, sym, refl, ap, ◌∙◌, subst, inl, inr, ⊎_elim, arith}
use Rattle.std.proofs.lemmas.Bool.{cases_Bool, le-ltb, ltb-false, ltb-true}
use Rattle.forms.specs.Faults.{Fault, fault}
use Rattle.forms.specs.Lines.{Line}
use Rattle.forms.specs.Sayings.{says}
use Rattle.forms.specs.declared.faults.Layer.TheVariants.{Sheet as SheetLayer}
use Rattle.forms.specs.declared.sayings.Said.{Said}
use Rattle.forms.specs.declared.sayings.Said.TheVariants.{Sheet, Queue, At, End, Remark}
use Rattle.sheet.specs.Ats.{AtLine}
use Rattle.sheet.specs.Orders.{SoFar, at_line, in_order, nothing_read, with_said}
use Rattle.sheet.specs.Rules.{Faultless, FirstLate, Has, Saying, out_of_order, set_by_lines}
use Rattle.sheet.specs.Sheets.{late, over}
use Rattle.sheet.specs.declared.drafts.Stage.{Stage}
use Rattle.sheet.specs.declared.drafts.Stage.TheVariants.{Over}

-- Lines without a fault: the first, and those behind it.
pub first_faultless : (s : SoFar) (l : Line) (ls : List Line) → Faultless s (l ∷ ls) → (f : Fault) → Has s l f → ⊥
first_faultless s l ls faultless f h = faultless [] l ls f refl h

pub later_faultless : (s : SoFar) (l : Line) (ls : List Line) → Faultless s (l ∷ ls) → Faultless (with_said s l (says l)) ls
later_faultless s l ls faultless before m behind f e h = faultless (l ∷ before) m behind f (ap (λ xs. l ∷ xs) e) h

pub one_more : (s : SoFar) (l : Line) (ls : List Line) → ((f : Fault) → Has s l f → ⊥) → Faultless (with_said s l (says l)) ls
    → Faultless s (l ∷ ls)
one_more s l ls none later [] m behind f e h = let same : m ≡ l = cc in none f (subst (λ x. Has s x f) same h)
one_more s l ls none later (x ∷ before) m behind f e h =
    let same : x ≡ l = cc in
    let rest : ls ≡ before ++ (m ∷ behind) = cc in
    later before m behind f rest (subst (λ y. Has (set_by_lines (with_said s y (says y)) before) m f) same h)

set_behind : (s : SoFar) (before behind : List Line) → set_by_lines s (before ++ behind) ≡ set_by_lines (set_by_lines s before) behind
set_behind s [] behind = refl
set_behind s (l ∷ before) behind = set_behind (with_said s l (says l)) before behind

behind_faultless : (before : List Line) (s : SoFar) (ls : List Line) → Faultless s (before ++ ls) → Faultless (set_by_lines s before) ls
behind_faultless [] s ls faultless = faultless
behind_faultless (l ∷ before) s ls faultless =
    behind_faultless before (with_said s l (says l)) ls (later_faultless s l (before ++ ls) faultless)

-- Behind the end line only remarks are in order.
over_only : (s : SoFar) (l : Line) (what : Said) → over s.stage ≡ true → in_order s.stage what ≡ true → with_said s l what ≡ s
over_only s l what is_over next = at_stage s.stage what is_over next
  where
    at_stage : (stage : Stage) (what : Said) → over stage ≡ true → in_order stage what ≡ true → with_said s l what ≡ s
    at_stage Over Remark is_over next = refl
    at_stage stage what is_over next = cc

stays_over : (ls : List Line) (s : SoFar) → over s.stage ≡ true → Faultless s ls → set_by_lines s ls ≡ s
stays_over [] s is_over faultless = refl
stays_over (l ∷ ls) s is_over faultless =
    let next : in_order s.stage (says l) ≡ true =
    ⊎_elim (λ t. t) (λ fails. absurd (first_faultless s l ls faultless _ (out_of_order fails))) (cases_Bool (in_order s.stage (says l))) in
    let same : with_said s l (says l) ≡ s = over_only s l (says l) is_over next in
    ap (λ t. set_by_lines t ls) same ∙ stays_over ls s is_over (subst (λ t. Faultless t ls) same (later_faultless s l ls faultless))

-- A line either says the end, or what it says leaves the end not reached.
record IsEnd (what : Said) : Type 0 where
  ticks : ℕ
  is : what ≡ End ticks

no_end_yet : (s : SoFar) (l : Line) (what : Said) → over s.stage ≡ false → IsEnd what ⊎ (over (with_said s l what).stage ≡ false)
no_end_yet s l Sheet not_yet = inr refl
no_end_yet s l (Queue name) not_yet = inr refl
no_end_yet s l (End ticks) not_yet = inl (record { ticks = ticks; is = refl })
no_end_yet s l what not_yet = inr not_yet

-- A line that says something still does with one line more before it; and the first line says what it says.
said_later : (l : Line) (ls : List Line) (what : Said) → Saying ls what → Saying (l ∷ ls) what
said_later l ls what r =
    record { before = l ∷ r.before; line = r.line; behind = r.behind; whole = ap (λ xs. l ∷ xs) r.whole; is_said = r.is_said }

said_first : (l : Line) (ls : List Line) (what : Said) → says l ≡ what → Saying (l ∷ ls) what
said_first l ls what e = record { before = []; line = l; behind = ls; whole = refl; is_said = e }

-- Where the end was reached, a line says it.
pub end_said : (ls : List Line) (s : SoFar) → Faultless s ls → over s.stage ≡ false → over (set_by_lines s ls).stage ≡ true
    → Saying ls (End (set_by_lines s ls).ticks)
end_said [] s faultless not_yet reached = cc
end_said (l ∷ ls) s faultless not_yet reached =
    let t = with_said s l (says l) in
    ⊎_elim
    (λ end.
    let set : t ≡ with_said s l (End end.ticks) = ap (with_said s l) end.is in
    let stays : set_by_lines t ls ≡ t =
    stays_over ls t (ap (λ (u : SoFar). over u.stage) set) (later_faultless s l ls faultless) in
    let same : end.ticks ≡ (set_by_lines t ls).ticks = sym (ap (λ (u : SoFar). u.ticks) (stays ∙ set)) in
    said_first l ls (End (set_by_lines t ls).ticks) (end.is ∙ ap End same))
    (λ still. said_later l ls _ (end_said ls t (later_faultless s l ls faultless) still reached))
    (no_end_yet s l (says l) not_yet)

-- And where a line says it, it was reached.
pub record Reached (s : SoFar) (ticks : ℕ) : Type 0 where
  pub reached : over s.stage ≡ true
  pub with_ticks : s.ticks ≡ ticks

pub said_end : (ls : List Line) (s : SoFar) (ticks : ℕ) → Faultless s ls → Saying ls (End ticks) → Reached (set_by_lines s ls) ticks
said_end ls s ticks faultless r =
    let split : Faultless s (r.before ++ (r.line ∷ r.behind)) = subst (Faultless s) r.whole faultless in
    let u = set_by_lines s r.before in
    let rest = behind_faultless r.before s (r.line ∷ r.behind) split in
    let t = with_said u r.line (says r.line) in
    let set : t ≡ with_said u r.line (End ticks) = ap (with_said u r.line) r.is_said in
    let stays : set_by_lines t r.behind ≡ t =
    stays_over r.behind t (ap (λ (v : SoFar). over v.stage) set) (later_faultless u r.line r.behind rest) in
    let all : set_by_lines s ls ≡ with_said u r.line (End ticks) =
    ap (set_by_lines s) r.whole ∙ set_behind s r.before (r.line ∷ r.behind) ∙ stays ∙ set in
    record { reached = ap (λ (v : SoFar). over v.stage) all; with_ticks = ap (λ (v : SoFar). v.ticks) all }

-- The first at-line that is late, looked for among the lines.
abbrev fault_at : Line → Fault
fault_at l = fault 16 SheetLayer l.position

abbrev late_or : ℕ → Line → Said → Option Fault → Option Fault
late_or ticks l (At clock) later = cond (ltb clock ticks) later (Some (fault_at l))
late_or ticks l what later = later

abbrev pub late_line : ℕ → List Line → Option Fault
late_line ticks [] = None
late_line ticks (l ∷ ls) = late_or ticks l (says l) (late_line ticks ls)

abbrev or_else : Option Fault → Option Fault → Option Fault
or_else None o = o
or_else (Some f) o = Some f

or_none : (o : Option Fault) → or_else o None ≡ o
or_none None = refl
or_none (Some f) = refl

one_later : (ticks : ℕ) (ats : List AtLine) (l : Line) (clock : ℕ) (later : Option Fault)
    → or_else (late ticks (ats ++ (at_line clock l ∷ []))) later
    ≡ or_else (late ticks ats) (cond (ltb clock ticks) later (Some (fault_at l)))
one_later ticks [] l clock later = ⊎_elim (λ t. rw t) (λ f. rw f) (cases_Bool (ltb clock ticks))
one_later ticks (a ∷ ats) l clock later =
    ⊎_elim (λ t. rw t (one_later ticks ats l clock later)) (λ f. rw f) (cases_Bool (ltb a.clock ticks))

late_with_said : (ticks : ℕ) (s : SoFar) (l : Line) (what : Said) (later : Option Fault)
    → or_else (late ticks (with_said s l what).ats) later ≡ or_else (late ticks s.ats) (late_or ticks l what later)
late_with_said ticks s l (At clock) later = one_later ticks s.ats l clock later
late_with_said ticks s l what later = refl

late_all : (ticks : ℕ) (ls : List Line) (s : SoFar) → late ticks (set_by_lines s ls).ats ≡ or_else (late ticks s.ats) (late_line ticks ls)
late_all ticks [] s = sym (or_none (late ticks s.ats))
late_all ticks (l ∷ ls) s = late_all ticks ls (with_said s l (says l)) ∙ late_with_said ticks s l (says l) (late_line ticks ls)

pub late_by_lines : (ticks : ℕ) (ls : List Line) → late ticks (set_by_lines nothing_read ls).ats ≡ late_line ticks ls
late_by_lines ticks ls = late_all ticks ls nothing_read

pub record LateLine (ls : List Line) (ticks : ℕ) (f : Fault) : Type 0 where
  pub line : Line
  pub first : FirstLate ls ticks line
  pub fault_is : fault_at line ≡ f

-- Either a line says a clock that is late, or it says none, and the lines behind it decide.
record Late (ticks : ℕ) (what : Said) : Type 0 where
  clock : ℕ
  is : what ≡ At clock
  late : ticks ≤ clock

record NotLate (ticks : ℕ) (l : Line) (what : Said) : Type 0 where
  on_time : (c : ℕ) → what ≡ At c → c < ticks
  goes_on : (later : Option Fault) → late_or ticks l what later ≡ later

at_same : (b c : ℕ) → At b ≡ At c → b ≡ c
at_same b c e = cc

which : (ticks : ℕ) (l : Line) (what : Said) → Late ticks what ⊎ NotLate ticks l what
which ticks l (At clock) =
    ⊎_elim
    (λ t.
    inr (record {
      on_time = λ c e. subst (λ (n : ℕ). n < ticks) (at_same clock c e) (ltb-true clock ticks t);
      goes_on = λ later. ap (λ (u : Bool). cond u later (Some (fault_at l))) t;
    }))
    (λ f. inl (record { clock = clock; is = refl; late = ltb-false clock ticks f }))
    (cases_Bool (ltb clock ticks))
which ticks l what = inr (record { on_time = λ c e. cc; goes_on = λ later. refl })

late_here : (ticks : ℕ) (l : Line) (clock : ℕ) (later : Option Fault) → says l ≡ At clock → ticks ≤ clock
    → late_or ticks l (says l) later ≡ Some (fault_at l)
late_here ticks l clock later e late =
    ap (λ what. late_or ticks l what later) e ∙ ap (λ (u : Bool). cond u later (Some (fault_at l))) (le-ltb clock ticks late)

pub none_within : {P : Type 0} (before : List Line) (l : Line) (behind : List Line) → [] ≡ before ++ (l ∷ behind) → P
none_within [] l behind e = cc
none_within (b ∷ before) l behind e = cc

nothing_said : {P : Type 0} (what : Said) → Saying [] what → P
nothing_said what r = none_within r.before r.line r.behind r.whole

-- A line that says something is the first, or one behind it.
first_or_later : (l : Line) (ls : List Line) (what : Said) → Saying (l ∷ ls) what → (says l ≡ what) ⊎ Saying ls what
first_or_later l ls what r = split r.before r.whole
  where
    split : (before : List Line) → l ∷ ls ≡ before ++ (r.line ∷ r.behind) → (says l ≡ what) ⊎ Saying ls what
    split [] e = let same : l ≡ r.line = cc in inl (ap says same ∙ r.is_said)
    split (b ∷ before) e =
        let rest : ls ≡ before ++ (r.line ∷ r.behind) = cc in
        inr (record { before = before; line = r.line; behind = r.behind; whole = rest; is_said = r.is_said })

pub late_found : (ticks : ℕ) (ls : List Line) (f : Fault) → late_line ticks ls ≡ Some f → LateLine ls ticks f
late_found ticks [] f e = cc
late_found ticks (l ∷ ls) f e =
    ⊎_elim
    (λ late.
    let here : Some (fault_at l) ≡ Some f = sym (late_here ticks l late.clock (late_line ticks ls) late.is late.late) ∙ e in
    record {
      line = l;
      first =
          record {
            before = [];
            behind = ls;
            whole = refl;
            clock = late.clock;
            is_at = late.is;
            late = late.late;
            earlier = λ c r. nothing_said (At c) r;
          };
      fault_is = cc;
    })
    (λ not_late.
    let r = late_found ticks ls f (sym (not_late.goes_on (late_line ticks ls)) ∙ e) in
    record {
      line = r.line;
      first =
          record {
            before = l ∷ r.first.before;
            behind = r.first.behind;
            whole = ap (λ xs. l ∷ xs) r.first.whole;
            clock = r.first.clock;
            is_at = r.first.is_at;
            late = r.first.late;
            earlier = λ c said. ⊎_elim (not_late.on_time c) (r.first.earlier c) (first_or_later l r.first.before (At c) said);
          };
      fault_is = r.fault_is;
    })
    (which ticks l (says l))

late_behind : (ticks : ℕ) (before : List Line) (l : Line) (behind : List Line) (clock : ℕ) → says l ≡ At clock → ticks ≤ clock
    → ((c : ℕ) → Saying before (At c) → c < ticks) → late_line ticks (before ++ (l ∷ behind)) ≡ Some (fault_at l)
late_behind ticks [] l behind clock is late earlier = late_here ticks l clock (late_line ticks behind) is late
late_behind ticks (b ∷ before) l behind clock is late earlier =
    ⊎_elim
    (λ no_late.
    let on_time = earlier no_late.clock (said_first b before (At no_late.clock) no_late.is) in
    absurd (omega (arith, on_time, no_late.late)))
    (λ not_late.
    not_late.goes_on (late_line ticks (before ++ (l ∷ behind)))
    ∙ late_behind ticks before l behind clock is late (λ c r. earlier c (said_later b before (At c) r)))
    (which ticks b (says b))

pub first_late : (ticks : ℕ) (ls : List Line) (l : Line) → FirstLate ls ticks l → late_line ticks ls ≡ Some (fault_at l)
first_late ticks ls l r = ap (late_line ticks) r.whole ∙ late_behind ticks r.before l r.behind r.clock r.is_at r.late r.earlier

pub none_late : (ticks : ℕ) (ls : List Line) → late_line ticks ls ≡ None → (c : ℕ) → Saying ls (At c) → c < ticks
none_late ticks [] e c r = nothing_said (At c) r
none_late ticks (l ∷ ls) e c r =
    ⊎_elim
    (λ late. let other = sym (late_here ticks l late.clock (late_line ticks ls) late.is late.late) ∙ e in cc)
    (λ not_late.
    ⊎_elim (not_late.on_time c) (none_late ticks ls (sym (not_late.goes_on (late_line ticks ls)) ∙ e) c) (first_or_later l ls (At c) r))
    (which ticks l (says l))

pub late_none : (ticks : ℕ) (ls : List Line) → ((c : ℕ) → Saying ls (At c) → c < ticks) → late_line ticks ls ≡ None
late_none ticks [] on_time = refl
late_none ticks (l ∷ ls) on_time =
    ⊎_elim
    (λ late.
    let before = on_time late.clock (said_first l ls (At late.clock) late.is) in absurd (omega (arith, before, late.late)))
    (λ not_late. not_late.goes_on (late_line ticks ls) ∙ late_none ticks ls (λ c r. on_time c (said_later l ls (At c) r)))
    (which ticks l (says l))
