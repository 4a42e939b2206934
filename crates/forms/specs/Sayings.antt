-- What a line says, where its word decides which items it wants; and the faults of the layers letters and forms.
use Rattle.std.specs.Prelude.{ℕ, Bool, true, false, cond, ◌&&◌, ◌||◌, List, [], ◌∷◌, ◌++◌, is_some, Some, None, codes, Option, Result, ◌==◌, nat_le, slice_index}
use Rattle.std.specs.Option.{option_map, unwrap_or}
use Rattle.std.specs.Str.{bytes_eq}
use Rattle.model.specs.declared.calls.Call.{Call}
use Rattle.model.specs.declared.calls.Call.TheVariants.{Release, Done, Request, Withdraw}
use Rattle.forms.specs.Faults.{Fault, fault, judged, unless}
use Rattle.forms.specs.Forms.{bracketed, is_form, is_remark, spelled_out}
use Rattle.forms.specs.Items.{inside, is_number, items, numbers, numbers_fit, value}
use Rattle.forms.specs.Lines.{Line, bad_letter}
use Rattle.forms.specs.declared.faults.Layer.TheVariants.{Forms}
use Rattle.forms.specs.declared.sayings.QueueName.TheVariants.{First, Worth}
use Rattle.forms.specs.declared.sayings.Said.{Said}
use Rattle.forms.specs.declared.sayings.Said.TheVariants.{Sheet, Duty as AddDuty, Queue, At, End, Remark}

-- The call that a word and the items behind it are, if the word is known and the items are the numbers that it wants.
abbrev pub worded_call : List ℕ → List (List ℕ) → Option Call
worded_call word is =
    cond (bytes_eq word (codes "release")) (option_map (λ vs. Release (slice_index vs 0)) (numbers 1 is))
    (cond (bytes_eq word (codes "done")) (option_map (λ vs. Done (slice_index vs 0)) (numbers 1 is))
    (cond (bytes_eq word (codes "request"))
    (option_map (λ vs. Request (record { number = slice_index vs 0; units = slice_index vs 1; worth = slice_index vs 2 })) (numbers 3 is))
    (cond (bytes_eq word (codes "withdraw")) (option_map (λ vs. Withdraw (slice_index vs 0)) (numbers 1 is))
    None)))

abbrev pub call_of_items : List (List ℕ) → Option Call
call_of_items [] = None
call_of_items (word ∷ is) = worded_call word is

-- The call that an item is: of a form, the one that its word and its items are; what is no form is no call.
abbrev pub call : List ℕ → Option Call
call item = cond (bracketed item && spelled_out item) (call_of_items (items 0 (inside item))) None

-- Every item is a call.
abbrev pub all_calls : List (List ℕ) → Bool
all_calls [] = true
all_calls (i ∷ is) = is_some (call i) && all_calls is

-- One call or more, and nothing else.
abbrev pub some_calls : List (List ℕ) → Bool
some_calls [] = false
some_calls (i ∷ is) = is_some (call i) && all_calls is

-- `(sheet 1)`
abbrev pub sheet_said : List ℕ → Option Said
sheet_said vs = cond (slice_index vs 0 == 1) (Some Sheet) None

abbrev pub sheet_of_numbers : Option (List ℕ) → Option Said
sheet_of_numbers None = None
sheet_of_numbers (Some vs) = sheet_said vs

-- `(duty PLACE COST DEADLINE SEPARATION)`
abbrev pub duty_said : List ℕ → Said
duty_said vs = AddDuty (slice_index vs 0) (record { cost = slice_index vs 1; deadline = slice_index vs 2; separation = slice_index vs 3 })

-- `(queue first)`, `(queue worth)`
abbrev pub queue_said : List (List ℕ) → Option Said
queue_said (name ∷ []) =
    cond (bytes_eq name (codes "first")) (Some (Queue First))
    (cond (bytes_eq name (codes "worth")) (Some (Queue Worth)) None)
queue_said is = None

-- `(at CLOCK CALL ..)`
abbrev pub at_said : List (List ℕ) → Option Said
at_said [] = None
at_said (clock ∷ is) = cond (is_number clock && some_calls is) (Some (At (value clock))) None

-- `(end TICKS)`
abbrev pub end_said : List ℕ → Said
end_said vs = End (slice_index vs 0)

-- What a line of this word says, if the word is known and the items behind it are what it wants.
abbrev pub worded : List ℕ → List (List ℕ) → Option Said
worded word is =
    cond (bytes_eq word (codes "sheet")) (sheet_of_numbers (numbers 1 is))
    (cond (bytes_eq word (codes "duty")) (option_map duty_said (numbers 4 is))
    (cond (bytes_eq word (codes "queue")) (queue_said is)
    (cond (bytes_eq word (codes "at")) (at_said is)
    (cond (bytes_eq word (codes "end")) (option_map end_said (numbers 1 is))
    None))))

abbrev pub said_by_items : List (List ℕ) → Option Said
said_by_items [] = None
said_by_items (word ∷ is) = worded word is

-- What a line that is a form says, if its items are what its word wants.
abbrev pub said : List ℕ → Option Said
said bs = cond (is_remark bs) (Some Remark) (said_by_items (items 0 (inside bs)))

-- What a line says, and nothing where that is not known.
abbrev pub says : Line → Said
says l = unwrap_or (said l.bytes) Remark

-- A run has at most 10,000 ticks.
abbrev pub end_fits : Said → Bool
end_fits (End ticks) = nat_le ticks 10000
end_fits said = true

-- The faults of a line's letters and of its form.
abbrev pub fault_12 : Line → Option Fault
fault_12 l = bad_letter l.position l.bytes

abbrev pub fault_13 : Line → Option Fault
fault_13 l = unless (l.ended && is_form l.bytes) (fault 13 Forms l.position)

abbrev pub fault_14 : Line → Option Fault
fault_14 l = unless (is_some (said l.bytes)) (fault 14 Forms l.position)

abbrev pub fault_15 : Line → Option Fault
fault_15 l =
    unless (is_remark l.bytes || (numbers_fit l.bytes && end_fits (says l))) (fault 15 Forms l.position)

-- Each layer's faults, in the order in which they count.
abbrev pub letters_faults : Line → List (Option Fault)
letters_faults l = fault_12 l ∷ []

abbrev pub forms_faults : Line → List (Option Fault)
forms_faults l = fault_13 l ∷ fault_14 l ∷ fault_15 l ∷ []

-- What a line says, or the first fault of its letters or its form.
abbrev pub form_judged : Line → Result Said Fault
form_judged l = judged (letters_faults l ++ forms_faults l) (says l)
