-- What streams with bounded numbers ask for: sums that fit, that do not fall, and that stand still between jobs.
use Rattle.std.proofs.Common.{◌≡◌, ℕ, zero, suc, ◌+◌, ◌-◌, ◌*◌, ◌<◌, ◌≤◌, min, true, List, [], ◌∷◌, ◌++◌, length, get_or, take, drop, refl, ap, ◌∙◌, div-mul-le_self, mul-le-mul, mul-le-mul_left, arith}
use Rattle.std.proofs.lemmas.List.{at_drop_more, take_more}
use Rattle.std.proofs.lemmas.Bool.{and_from, and_parts, leb-true}
use Rattle.model.specs.Table.{ceil}
use Rattle.model.proofs.Ceil.{ceil_at_most, ceil_covers, ceil_mono, ceil_whole}
use Rattle.workload.specs.Streams.{all_ask, all_bounded, asks, bounded}
use Rattle.workload.specs.declared.streams.Stream.{Stream}

pub record Bounds (s : Stream) : Type 0 where
  pub left_small : s.left ≤ 4096
  pub first_small : s.first ≤ 4096
  pub cost_small : s.cost ≤ 4096
  pub apart : 1 ≤ s.separation
  pub separation_small : s.separation ≤ 4096

pub bounds_of : (s : Stream) → bounded s ≡ true → Bounds s
bounds_of s h =
    let fifth = and_parts _ _ h in
    let fourth = and_parts _ _ fifth.0 in
    let third = and_parts _ _ fourth.0 in
    let second = and_parts _ _ third.0 in
    record {
      left_small = leb-true _ _ second.0;
      first_small = leb-true _ _ second.1;
      cost_small = leb-true _ _ third.1;
      apart = leb-true _ _ fourth.1;
      separation_small = leb-true _ _ fifth.1;
    }

abbrev pub no_stream : Stream
no_stream = record { left = 0; first = 0; cost = 0; separation = 0 }

pub bounds_at : (ss : List Stream) (k : ℕ) → all_bounded ss ≡ true → k < length ss → Bounds (get_or ss k no_stream)
bounds_at [] k h lt = absurd (omega arith)
bounds_at (s ∷ ss) zero h lt = bounds_of s (and_parts _ _ h).0
bounds_at (s ∷ ss) (suc k) h lt = bounds_at ss k (and_parts _ _ h).1 (omega arith)

pub bounded_take : (n : ℕ) (ss : List Stream) → all_bounded ss ≡ true → all_bounded (take n ss) ≡ true
bounded_take zero ss h = refl
bounded_take (suc n) [] h = refl
bounded_take (suc n) (s ∷ ss) h =
    let both = and_parts _ _ h in
    and_from _ _ both.0 (bounded_take n ss both.1)

-- The jobs of a stream within 8,193 ticks.
pub jobs_small : (s : Stream) (w : ℕ) → Bounds s → w ≤ 8193 → s.cost * ceil (w - s.first) s.separation ≤ 33558528
jobs_small s w t le =
    let few : s.cost ≤ 4096 = t.cost_small in
    let jobs : ceil (w - s.first) s.separation ≤ 8193 = omega (arith, ceil_at_most (w - s.first) s.separation t.apart) in
    mul-le-mul few jobs

pub asks_small : (s : Stream) (w : ℕ) → Bounds s → w ≤ 8193 → asks s w ≤ 33562624
asks_small s w t le = omega (arith, jobs_small s w t le, t.left_small)

pub all_ask_small : (ss : List Stream) (w : ℕ) → all_bounded ss ≡ true → w ≤ 8193 → all_ask ss w ≤ length ss * 33562624
all_ask_small [] w h le = omega arith
all_ask_small (s ∷ ss) w h le =
    let both = and_parts (bounded s) (all_bounded ss) h in
    omega (arith, asks_small s w (bounds_of s both.0) le, all_ask_small ss w both.1 le)

-- Within more ticks a stream asks for no less.
pub asks_monotone : (s : Stream) (v w : ℕ) → v ≤ w → asks s v ≤ asks s w
asks_monotone s v w le =
    omega (arith, mul-le-mul_left s.cost (ceil_mono (v - s.first) (w - s.first) s.separation (omega arith)))

pub all_ask_monotone : (ss : List Stream) (v w : ℕ) → v ≤ w → all_ask ss v ≤ all_ask ss w
all_ask_monotone [] v w le = omega arith
all_ask_monotone (s ∷ ss) v w le = omega (arith, asks_monotone s v w le, all_ask_monotone ss v w le)

-- The sum with stream k more, where it has so many jobs, and the streams that remain to be added.
pub all_ask_more : (ss : List Stream) (k : ℕ) → k < length ss → (w sum jobs : ℕ)
    → jobs ≡ ceil (w - (get_or ss k no_stream).first) (get_or ss k no_stream).separation
    → sum + all_ask (drop k ss) w ≡ all_ask ss w
    → sum + ((get_or ss k no_stream).left + (get_or ss k no_stream).cost * jobs) + all_ask (drop (k + 1) ss) w ≡ all_ask ss w
all_ask_more ss k inside w sum jobs counts so_far =
    let more : all_ask (drop k ss) w ≡ asks (get_or ss k no_stream) w + all_ask (drop (k + 1) ss) w =
    at_drop_more (λ rest. all_ask rest w) ss k no_stream inside in
    rw counts (omega arith)

-- A stream's next job at w or later begins at x: not long after w, and the stream asks for the same until then.
pub record NextJob (s : Stream) (w x : ℕ) : Type 0 where
  pub ahead : w ≤ x
  pub near : x ≤ w + 8192
  pub same : asks s x ≡ asks s w

next_job : (s : Stream) (w : ℕ) → Bounds s → NextJob s w (s.first + ceil (w - s.first) s.separation * s.separation)
unfolding ceil
next_job s w t =
    let jobs = ceil (w - s.first) s.separation in
    let covers : w - s.first ≤ jobs * s.separation = ceil_covers (w - s.first) s.separation t.apart in
    let no-more : jobs * s.separation ≤ w - s.first + (s.separation - 1) = div-mul-le_self (w - s.first + (s.separation - 1)) s.separation in
    let since : s.first + jobs * s.separation - s.first ≡ jobs * s.separation = omega arith in
    record {
      ahead = omega arith;
      near = omega (arith, t.first_small, t.separation_small);
      same = ap (λ n. s.left + s.cost * n) (ap (λ n. ceil n s.separation) since ∙ ceil_whole jobs s.separation t.apart);
    }

pub next_at : (ss : List Stream) (k : ℕ) → k < length ss → all_bounded ss ≡ true → (w jobs : ℕ)
    → jobs ≡ ceil (w - (get_or ss k no_stream).first) (get_or ss k no_stream).separation
    → NextJob (get_or ss k no_stream) w ((get_or ss k no_stream).first + jobs * (get_or ss k no_stream).separation)
next_at ss k inside bounded w jobs counts = rw counts (next_job (get_or ss k no_stream) w (bounds_at ss k bounded inside))

-- One stream more of the sum over the first ones.
all_ask_append : (ss ts : List Stream) (w : ℕ) → all_ask (ss ++ ts) w ≡ all_ask ss w + all_ask ts w
all_ask_append [] ts w = omega arith
all_ask_append (s ∷ ss) ts w = omega (arith, all_ask_append ss ts w)

pub all_ask_take : (ss : List Stream) (k w : ℕ) → k < length ss
    → all_ask (take (k + 1) ss) w ≡ all_ask (take k ss) w + asks (get_or ss k no_stream) w
all_ask_take ss k w lt =
    ap (λ (ts : List Stream). all_ask ts w) (take_more ss k no_stream lt)
    ∙ all_ask_append (take k ss) (get_or ss k no_stream ∷ []) w
    ∙ omega arith

-- What asks for no more at a later time asks for the same until then.
pub still_until : (f : ℕ → ℕ) → ((v w : ℕ) → v ≤ w → f v ≤ f w) → (v x y : ℕ) → v ≤ x → x ≤ y → f y ≡ f v → f x ≡ f v
still_until f monotone v x y low high same = omega (arith, monotone v x low, monotone x y high)

-- One stream more: all of them stay quiet until the sooner of its next job and of how far the others stay so.
pub quiet_more : (ss : List Stream) (k : ℕ) → k < length ss → (ticks until next : ℕ)
    → ticks ≤ until
    → all_ask (take k ss) until ≡ all_ask (take k ss) ticks
    → NextJob (get_or ss k no_stream) ticks next
    → all_ask (take (k + 1) ss) (min until next) ≡ all_ask (take (k + 1) ss) ticks
quiet_more ss k inside ticks until next low before job =
    let s = get_or ss k no_stream in
    let least = min until next in
    let above : ticks ≤ least = omega (arith, job.ahead) in
    let this = still_until (asks s) (asks_monotone s) ticks least next above (omega arith) job.same in
    let others = still_until (all_ask (take k ss)) (all_ask_monotone (take k ss)) ticks least until above (omega arith) before in
    omega (arith, this, others, all_ask_take ss k least inside, all_ask_take ss k ticks inside)
