-- Streams of work, by times that count from the clock.
use Rattle.std.specs.Prelude.{ℕ, ◌+◌, ◌-◌, ◌*◌, Bool, true, ◌&&◌, List, [], ◌∷◌, nat_le}
use Rattle.model.specs.Demand.{left_of, next_release}
use Rattle.model.specs.Table.{ceil}
use Rattle.model.specs.declared.duties.Duty.{Duty}
use Rattle.model.specs.declared.rows.Row.{Row}
use Rattle.workload.specs.declared.streams.Stream.{Stream}

-- What a stream asks for within w ticks.
abbrev pub asks : Stream → ℕ → ℕ
asks s w = s.left + s.cost * ceil (w - s.first) s.separation

-- What the streams ask for within w ticks, all together.
abbrev pub all_ask : List Stream → ℕ → ℕ
all_ask [] w = 0
all_ask (s ∷ ss) w = asks s w + all_ask ss w

-- Each number of the stream is at most 4,096, so that no sum of sixteen streams over a window passes 32 bits.
abbrev pub bounded : Stream → Bool
bounded s = nat_le s.left 4096 && nat_le s.first 4096 && nat_le s.cost 4096 && nat_le 1 s.separation && nat_le s.separation 4096

abbrev pub all_bounded : List Stream → Bool
all_bounded [] = true
all_bounded (s ∷ ss) = bounded s && all_bounded ss

-- The stream of a row from a clock on, with the releases for the clock over.
abbrev pub stream_of : ℕ → Duty → Row → Stream
stream_of clock duty row =
    record {
      left = left_of row;
      first = next_release (clock + 1) row - clock;
      cost = duty.cost;
      separation = duty.separation;
    }

-- The streams of all rows.
abbrev pub streams_of : ℕ → List Duty → List Row → List Stream
streams_of clock (duty ∷ table) (row ∷ rows) = stream_of clock duty row ∷ streams_of clock table rows
streams_of clock table rows = []
