-- Spare ticks: a tick before which an errand waited went to an errand exactly when no lawful future misses.
use Rattle.std.proofs.Common.{◌≡◌, ℕ, ◌<◌, Bool, true, false, nat_le, Some, None, Ok, Err, Option, refl, ap, ◌∙◌, ⊎_elim, arith}
use Rattle.std.proofs.lemmas.Bool.{both_ways, and_parts, and_cases, leb-true, leb-false}
use Rattle.model.specs.Futures.{Safe}
use Rattle.model.specs.Kept.{Keeps}
use Rattle.model.specs.Machine.{Work, State, Step, ServedOrLeft, SparedOrRun, duty_turn, errand_due, later, slack_of, waits}
use Rattle.model.specs.Promise.{SpareTicks, is_errand}
use Rattle.model.specs.Queues.{Meaning}
use Rattle.model.specs.Runs.{Trace}
use Rattle.model.specs.declared.calls.Answer.TheVariants.{Ticked}
use Rattle.model.specs.declared.calls.Call.TheVariants.{Tick}
use Rattle.model.specs.declared.calls.Who.{Who}
use Rattle.model.proofs.Futures.{slack_safe}
use Rattle.model.proofs.Overload.{safe_slack}
use Rattle.model.proofs.Steps.{run_keeps}
use Rattle.model.proofs.Ticks.{turn_cases}

-- A tick that goes as if no errand waited answers no errand.
pub no_errand : (w : Work) → is_errand (duty_turn w) ≡ false
no_errand w =
    ⊎_elim
    (λ (none, idle). rw (none, duty_turn))
    (λ (k, found, first). rw (found, duty_turn))
    (turn_cases w.rows)

-- The tick went to an errand exactly when none of the lawful futures from there misses.
abbrev ErrandIfSafe : Work → Who → Type 0
ErrandIfSafe w who = (is_errand who ≡ true → Safe (later w)) × (Safe (later w) → is_errand who ≡ true)

turn_spares :
    (due : Bool) (w : Work) (m m' : Meaning) (turn : Option Who) (who : Who) (w' : Work)
    → errand_due w (waits m) ≡ due
    → SparedOrRun due w turn w'
    → ServedOrLeft turn m who m'
    → Keeps w
    → waits m ≡ true
    → ErrandIfSafe w who
turn_spares true w m m' None who w' due (spared, then) (n, had, spent) keeps waiting = (
  λ _. slack_safe w keeps (leb-true 1 (slack_of w) (and_parts (waits m) (nat_le 1 (slack_of w)) due).1),
  λ _. ap is_errand had,
)
turn_spares true w m m' (Some who') who w' due (spared, then) left keeps waiting = absurd (let z : ◌≡◌ {A = ℕ} 0 1 = cc in omega arith)
turn_spares false w m m' None who w' due (worked, then) served keeps waiting = absurd (let z : ◌≡◌ {A = ℕ} 0 1 = cc in omega arith)
turn_spares false w m m' (Some who') who w' due (worked, then) (had, queue-stays) keeps waiting =
    let same : who' ≡ duty_turn w = cc in
    let duty : is_errand who ≡ false = ap is_errand (had ∙ same) ∙ no_errand w in
    let none : slack_of w < 1 =
    ⊎_elim
    (λ idle. absurd (both_ways (waits m) idle waiting))
    (λ tight. leb-false 1 (slack_of w) tight)
    (and_cases (waits m) (nat_le 1 (slack_of w)) due) in (
      λ errand. absurd (both_ways (is_errand who) duty errand),
      λ safe. absurd (omega (arith, safe_slack w keeps safe)),
    )

tick_spares :
    (s : State) (slack : ℕ) (who : Who) (s' : State)
    → Step s Tick (Ticked slack who) s' → Keeps s.work → waits s.queue ≡ true → ErrandIfSafe s.work who
tick_spares s slack who s' (Ok pair, answered, (turn, (room, slack-is, used), served)) keeps waiting =
    let same : who ≡ pair.1 = cc in
    rw same (turn_spares (errand_due s.work (waits s.queue)) s.work s.queue s'.queue turn pair.1 s'.work refl used served keeps waiting)
tick_spares s slack who s' (Err why, answered, refused) keeps waiting = absurd (let z : ◌≡◌ {A = ℕ} 0 1 = cc in omega arith)

pub ticks_spared : (start : State) (trace : Trace) (end : State) → Keeps start.work → SpareTicks start trace end
ticks_spared start trace end keeps before after s s' slack who is first one last waiting =
    tick_spares s slack who s' one (run_keeps start before s first keeps) waiting
