-- Scripts: lists of calls, with what they answered.
use Rattle.std.specs.Prelude.{List, map}
use Rattle.model.specs.Runs.{Trace}
use Rattle.model.specs.declared.calls.Answer.{Answer}
use Rattle.model.specs.declared.calls.Call.{Call}
use Rattle.dispatcher.specs.declared.entries.Entry.{Entry}

-- A call with its answer.
abbrev pub event_of : Entry → Call × Answer
event_of e = (e.call, e.answer)

-- What a script that was run says.
abbrev pub trace_of : List Entry → Trace
trace_of = map event_of

abbrev pub call_of : Entry → Call
call_of e = e.call

-- What a script asks for.
abbrev pub calls_of : List Entry → List Call
calls_of = map call_of
