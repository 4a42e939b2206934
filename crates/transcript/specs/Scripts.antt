-- The script of a sheet: which calls are made, and in which order.
use Rattle.std.specs.Prelude.{ℕ, zero, suc, Bool, List, [], ◌∷◌, ◌++◌, filter, ◌==◌}
use Rattle.std.specs.List.{flat_map}
use Rattle.model.specs.declared.calls.Call.{Call}
use Rattle.model.specs.declared.calls.Call.TheVariants.{Tick}
use Rattle.sheet.specs.Ats.{AtLine, calls_at}

-- Whether an at-line names a clock.
abbrev pub is_at : ℕ → AtLine → Bool
is_at clock a = a.clock == clock

-- The at-lines of a clock: those that name it, in the order of their lines.
abbrev pub at_lines : ℕ → List AtLine → List AtLine
at_lines clock ats = filter (is_at clock) ats

-- The calls before the tick at a clock: those of its at-lines, line by line.
abbrev pub calls_before : List AtLine → ℕ → List Call
calls_before ats clock = flat_map calls_at (at_lines clock ats)

-- The script of the first ticks: at each clock its calls, and then the tick.
abbrev pub script_of : List AtLine → ℕ → List Call
script_of ats zero = []
script_of ats (suc clock) = script_of ats clock ++ (calls_before ats clock ++ Tick ∷ [])
