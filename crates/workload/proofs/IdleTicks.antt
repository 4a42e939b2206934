-- Stretches of a window: how far the ticks stay busy, and how far they stay idle.
use Rattle.std.proofs.Common.{◌≡◌, ℕ, zero, suc, ◌+◌, ◌-◌, ◌≤◌, ◌∙◌, arith}
use Rattle.model.specs.Idle.{idle_ticks}
use Rattle.model.proofs.Slack.{Monotone, idle_more, idle_same}

module _ (f : ℕ → ℕ) (monotone : Monotone f) (at idle : ℕ) (so_far : idle ≡ idle_ticks f at) where
  busy_for : (n : ℕ) → at + n ≤ f (at + 1) + idle → idle_ticks f (at + n) ≡ idle
  busy_for zero le = let e : at + 0 ≡ at = omega arith in rw e (omega arith)
  busy_for (suc n) le =
      let before = busy_for n (omega arith) in
      let next : at + suc n ≡ suc (at + n) = omega arith in
      let more = monotone (at + 1) (suc (at + n)) (omega arith) in
      rw next (idle_same f monotone (at + n) (omega arith) ∙ before)

  -- Up to what is asked for within one tick more, with the idle ticks so far, every tick is busy.
  pub busy_until : (x : ℕ) → at ≤ x → x ≤ f (at + 1) + idle → idle_ticks f x ≡ idle
  busy_until x low high =
      let e : at + (x - at) ≡ x = omega arith in
      rw e at (busy_for (x - at) (omega arith))

  idle_for : (until : ℕ) → f until ≡ f (at + 1) → f (at + 1) + idle ≤ at → (n : ℕ) → at + n ≤ until → idle_ticks f (at + n) ≡ idle + n
  idle_for until quiet free zero le = let e : at + 0 ≡ at = omega arith in rw e (omega arith)
  idle_for until quiet free (suc n) le =
      let before = idle_for until quiet free n (omega arith) in
      let next : at + suc n ≡ suc (at + n) = omega arith in
      let same = monotone (suc (at + n)) until (omega arith) in
      rw next (idle_more f monotone (at + n) (omega arith) ∙ omega arith)

  -- From an idle tick on, every tick is idle until more is asked for.
  pub idle_until : (until : ℕ) → at ≤ until → f until ≡ f (at + 1) → f (at + 1) + idle ≤ at → idle_ticks f until ≡ idle + (until - at)
  idle_until until low quiet free =
      let e : at + (until - at) ≡ until = omega arith in
      rw e at (idle_for until quiet free (until - at) (omega arith))
