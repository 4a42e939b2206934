-- Scripts, which are lists of calls, and runs of them.
use Rattle.std.specs.Prelude.{◌≡◌, List}
use Rattle.model.specs.Histories.{Choice, Chosen, History}
use Rattle.model.specs.Machine.{State}
use Rattle.model.specs.Runs.{Run, Trace, calls_in}
use Rattle.model.specs.declared.calls.Call.{Call}

-- A run of a script from a state on, in which each tick that an errand has goes by a choice after the past.
pub record RunOf (choice : Choice) (past : History) (s : State) (script : List Call) : Type 0 where
  pub trace : Trace
  pub end : State
  pub run : Run s trace end
  pub chosen : Chosen choice past trace
  pub made : calls_in trace ≡ script
