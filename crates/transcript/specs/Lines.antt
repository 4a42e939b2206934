-- The lines of a transcript, as bytes. Each ends with byte 10.
use Rattle.std.specs.Prelude.{ℕ, List, [], ◌++◌, Some, None, Option, codes, decimal, slice_index}
use Rattle.model.specs.Refusals.{refusal_code}
use Rattle.model.specs.Words.{had_by}
use Rattle.model.specs.declared.calls.Answer.{Answer}
use Rattle.model.specs.declared.calls.Answer.TheVariants.{Ticked, Refused}
use Rattle.model.specs.declared.calls.Call.{Call}
use Rattle.model.specs.declared.calls.Call.TheVariants.{Release, Done, Request, Withdraw, Slack, Tick}
use Rattle.model.specs.declared.calls.Who.{Who}
use Rattle.forms.specs.Faults.{Fault}
use Rattle.forms.specs.declared.faults.Layer.{Layer}
use Rattle.forms.specs.declared.faults.Layer.TheVariants.{Letters, Forms, Sheet, Table}

-- `(duty ROW response W)`
abbrev pub duty_line : ℕ → ℕ → List ℕ
duty_line row w = codes "(duty " ++ (decimal row ++ (codes " response " ++ (decimal w ++ codes ")\n")))

-- The word of a call.
abbrev pub call_word : Call → List ℕ
call_word (Release row) = codes "release"
call_word (Done row) = codes "done"
call_word (Request errand) = codes "request"
call_word (Withdraw number) = codes "withdraw"
call_word Slack = codes "slack"
call_word Tick = codes "tick"

-- `(refused CLOCK NUMBER WORD)`
abbrev pub refused_line : ℕ → ℕ → Call → List ℕ
refused_line clock number call =
    codes "(refused "
    ++ (decimal clock ++ (codes " " ++ (decimal number ++ (codes " " ++ (call_word call ++ codes ")\n")))))

-- `(tick CLOCK SLACK nobody)`, `(tick CLOCK SLACK duty ROW)`, `(tick CLOCK SLACK errand NUMBER)`
abbrev pub tick_line : ℕ → ℕ → Who → List ℕ
tick_line clock slack who =
    codes "(tick " ++ (decimal clock ++ (codes " " ++ (decimal slack ++ (codes " " ++ (had_by who ++ codes ")\n")))))

-- What is printed of a call and its answer at a clock: a tick or a refusal has a line, and every other answer has none.
abbrev pub event_line : ℕ → Call → Answer → List ℕ
event_line clock call (Ticked slack who) = tick_line clock slack who
event_line clock call (Refused why) = refused_line clock (slice_index (refusal_code why) 0) call
event_line clock call answer = []

-- `WITHDRAWN WAITING)`, the end of a line of totals
abbrev pub last_totals : ℕ → ℕ → List ℕ
last_totals withdrawn waiting = decimal withdrawn ++ (codes " " ++ (decimal waiting ++ codes ")\n"))

-- `(totals ACCEPTED SERVED WITHDRAWN WAITING)`
abbrev pub totals_line : ℕ → ℕ → ℕ → ℕ → List ℕ
totals_line accepted served withdrawn waiting =
    codes "(totals " ++ (decimal accepted ++ (codes " " ++ (decimal served ++ (codes " " ++ last_totals withdrawn waiting))))

-- `LINE BYTE`, the position of a fault
abbrev pub position_words : ℕ → ℕ → List ℕ
position_words line byte = decimal line ++ (codes " " ++ decimal byte)

-- The layer that finds a fault, by its word.
abbrev pub layer_word : Layer → List ℕ
layer_word Letters = codes "letters"
layer_word Forms = codes "forms"
layer_word Sheet = codes "sheet"
layer_word Table = codes "table"

-- The end of a fault's line: a row, if there is one, stands behind the layer.
abbrev pub behind_layer : Option ℕ → List ℕ
behind_layer None = codes ")\n"
behind_layer (Some row) = codes " " ++ (decimal row ++ codes ")\n")

-- `(fault NUMBER LINE BYTE LAYER)`, `(fault NUMBER LINE BYTE LAYER ROW)`
abbrev pub fault_line : Fault → List ℕ
fault_line f =
    codes "(fault "
    ++ (decimal f.number
    ++ (codes " " ++ (position_words f.line f.byte ++ (codes " " ++ (layer_word f.layer ++ behind_layer f.row)))))
