use Rattle.std.proofs.Common.{◌≡◌, ◌-◌, ◌≤◌}
use Rattle.model.specs.Idle.{idle_ticks}
use Rattle.workload.specs.Streams.{all_ask}
use Rattle.workload.proofs.demands.Demand.idle_ticks.Given as goal

-- The idle ticks so far are counted, and the window is not left.
abbrev pub invariant-window : goal.invariant-window
invariant-window l = (l.at ≤ l.end) × (l.idle ≡ idle_ticks (all_ask l.self.streams.now) l.at) × (l.idle ≤ l.at)

abbrev pub decreases-window : goal.decreases-window
decreases-window l = l.end - l.at

abbrev pub invariant-busy : goal.invariant-busy
invariant-busy l =
    (l.at ≤ l.end) × (l.idle ≡ idle_ticks (all_ask l.self.streams.now) l.at) × (l.idle ≤ l.at) × (l.initial.at ≤ l.at)

abbrev pub decreases-busy : goal.decreases-busy
decreases-busy l = l.end - l.at
