-- The slack of a workload, row by row: the streams of rows 0 to i, their idle ticks, and the least of the slacks so far.
use Rattle.std.proofs.Common.{◌≡◌, ℕ, zero, suc, ◌+◌, ◌-◌, ◌<◌, ◌≤◌, min, true, List, [], ◌∷◌, ◌++◌, length, take, sym, refl, ap, ◌∙◌, ⊎_elim, arith}
use Rattle.std.proofs.lemmas.List.{take_more}
use Rattle.std.proofs.lemmas.Bool.{cases_lt}
use Rattle.model.proofs.Invariant.{kept_gives}
use Rattle.model.proofs.Slack.{Monotone, idle_more, idle_same, slack_is_idle_ticks}
use Rattle.model.specs.Demand.{row_at}
use Rattle.model.specs.Idle.{idle_ticks, within}
use Rattle.model.specs.Machine.{Work}
use Rattle.model.specs.Slack.{row_slack, window_end}
use Rattle.model.specs.Table.{duty_at}
use Rattle.model.specs.declared.duties.Duty.{Duty}
use Rattle.model.specs.declared.rows.Row.{Row}
use Rattle.workload.proofs.Ahead.{RowAhead, all_ask_is_demand, row_ahead, streams_at, streams_length, streams_bounded}
use Rattle.workload.proofs.RowCalls.{keeps_in}
use Rattle.workload.proofs.Minimum.{least_of, least_of_more}
use Rattle.workload.proofs.Bounds.{all_ask_monotone, no_stream, bounded_take}
use Rattle.workload.specs.Streams.{all_ask, all_bounded, stream_of, streams_of}
use Rattle.workload.specs.Workloads.{work_in}
use Rattle.workload.specs.declared.streams.Stream.{Stream}
use Rattle.workload.specs.declared.workloads.Workload.{Workload}

-- Equal demands have equal idle ticks, never more than there are ticks.
idle_alike : (f g : ℕ → ℕ) → ((w : ℕ) → f w ≡ g w) → (n : ℕ) → idle_ticks f n ≡ idle_ticks g n
idle_alike f g same zero = refl
idle_alike f g same (suc n) =
    let before = idle_alike f g same n in
    let next = same (suc n) in
    cc

pub idle_at_most : (f : ℕ → ℕ) → Monotone f → (n : ℕ) → idle_ticks f n ≤ n
idle_at_most f monotone zero = omega arith
idle_at_most f monotone (suc n) =
    let before = idle_at_most f monotone n in
    ⊎_elim (λ lt. omega (arith, idle_same f monotone n lt)) (λ le. omega (arith, idle_more f monotone n le)) (cases_lt n (f (suc n) + idle_ticks f n))

module _ (w : Workload) where
  abbrev work : Work
  work = work_in w

  -- The streams of the first n rows, and the slack of row i.
  abbrev pub first_streams : ℕ → List Stream
  first_streams n = take n (streams_of work.clock work.table work.rows)

  abbrev pub slacks : ℕ → ℕ
  slacks i = row_slack (work.clock + 1) work.clock work.table work.rows i

  same : length work.rows ≡ length work.table
  same = (kept_gives 0 work w.keeps).numbers.same_length

  ahead : (i : ℕ) → i < length work.table → RowAhead work.clock (duty_at work.table i) (row_at work.rows i)
  ahead = row_ahead work (keeps_in w)

  pub first_bounded : (n : ℕ) → all_bounded (first_streams n) ≡ true
  first_bounded n =
      bounded_take n (streams_of work.clock work.table work.rows) (streams_bounded work.clock work.table work.rows same ahead)

  module _ (i : ℕ) (lt : i < length work.table) where
    -- One stream more.
    stream_more : first_streams i ++ stream_of work.clock (duty_at work.table i) (row_at work.rows i) ∷ [] ≡ first_streams (i + 1)
    stream_more =
        let all = streams_of work.clock work.table work.rows in
        let inside : i < length all = omega (arith, streams_length work.clock work.table work.rows same) in
        sym (take_more all i no_stream inside
        ∙ ap (λ (s : Stream). first_streams i ++ s ∷ []) (streams_at work.clock work.table work.rows i no_stream same lt))

    -- The idle ticks of the streams of rows 0 to i, in the window of row i, are its slack.
    abbrev window_at : ℕ
    window_at = window_end (work.clock + 1) (duty_at work.table i) (row_at work.rows i) - work.clock

    pub idle_is_slack : idle_ticks (all_ask (first_streams (i + 1))) window_at ≡ slacks i
    idle_is_slack =
        let one : i + 1 ≡ suc i = omega arith in
        rw one
        (idle_alike (all_ask (first_streams (suc i))) (within (work.clock + 1) work.clock work.table work.rows i)
        (λ v. all_ask_is_demand work.clock work.table work.rows (suc i) v same (λ k short. (ahead k short).release_ahead))
        window_at
        ∙ sym (slack_is_idle_ticks (work.clock + 1) work.clock work.table work.rows i))

    -- Row i with its duty and its state, as the loop comes to it.
    module _ (duty : Duty) (row : Row) (this : duty ≡ duty_at work.table i) (that : row ≡ row_at work.rows i) where
      pub this_ahead : RowAhead work.clock duty row
      this_ahead = rw (this, that) (ahead i lt)

      pub streams_more : (before after : List Stream) (stream : Stream)
          → before ≡ first_streams i → stream ≡ stream_of work.clock duty row → after ≡ before ++ stream ∷ [] → after ≡ first_streams (i + 1)
      streams_more before after stream so_far is pushed = cc stream_more

      -- What the loop has of row i: the streams up to it, its window, and their idle ticks in the window.
      pub record RowIdle (streams : List Stream) (window idle : ℕ) : Type 0 where
        pub are : streams ≡ first_streams (i + 1)
        pub ends : window ≡ window_end (work.clock + 1) duty row - work.clock
        pub short : window ≤ 8192
        pub counts : idle ≡ idle_ticks (all_ask streams) window

      pub slack_more : (streams : List Stream) (window idle least : ℕ) → RowIdle streams window idle
          → least ≡ least_of slacks i → min least idle ≡ least_of slacks (i + 1)
      slack_more streams window idle least of-row so_far =
          let few = idle_at_most (all_ask streams) (all_ask_monotone streams) window in
          let slack : idle ≡ slacks i = cc (of-row.are, of-row.ends, of-row.counts, idle_is_slack) in
          rw so_far (ap (min (least_of slacks i)) slack ∙ least_of_more slacks i (omega (arith, few, slack, of-row.counts, of-row.short)))
