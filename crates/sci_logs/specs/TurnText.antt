-- The text of a log. This project's profile.
use Rattle.std.specs.Prelude.{ℕ, zero, suc, List, [], ◌∷◌, ◌++◌, Option, Some, None, codes}
use Rattle.std.specs.Fmt.{decimal}
use Rattle.std.specs.List.{flat_map}
use Rattle.sci_core.specs.declared.events.Event.{Event}
use Rattle.sci_dump.specs.Text.{hexadecimal, values_text}
use Rattle.sci_script.specs.declared.commands.Opening.{Opening}
use Rattle.sci_script.specs.declared.commands.Size.{Size}
use Rattle.sci_port.specs.declared.watching.Ending.{Ending}
use Rattle.sci_port.specs.declared.watching.Load.{Load}
use Rattle.sci_port.specs.declared.watching.Passed.{Passed}
use Rattle.sci_trace.specs.Events.{event_name, argument_text}

-- `node N line L `
abbrev pub entry_place : ℕ → ℕ → List ℕ
entry_place node line = codes "node " ++ decimal node ++ codes " line " ++ decimal line ++ codes " "

-- `node N line L Look Done`
abbrev pub look_line : ℕ → ℕ → List ℕ
look_line node line = entry_place node line ++ codes "Look Done\n"

-- a line so many times
unfoldable pub repeated : List ℕ → ℕ → List ℕ
repeated line zero = []
repeated line (suc n) = repeated line n ++ line

-- the outcome of an exchange: ` Done`, ` Missed WORD`, or ` Busy`
abbrev pub outcome_text : Ending → List ℕ
outcome_text Ending.Done = codes " Done"
outcome_text (Ending.Missed word) = codes " Missed " ++ hexadecimal 16 word
outcome_text Ending.Busy = codes " Busy"

-- the exchange of a turn, where it made one: `node N line L EVENT OUTCOME`, the event as in the turn's line of a trace
abbrev pub exchange_line : ℕ → Passed → List ℕ
exchange_line node passed = elim passed.step [
  | None ↦ []
  | Some step ↦ entry_place node passed.line ++ event_name step.0 ++ argument_text passed.load step.0 [] (codes ")") ++ outcome_text step.1 ++ codes "\n"
]

-- what passed in a turn of the node: its looks at the own tag, and then its exchange
abbrev pub entries_of : ℕ → Passed → List ℕ
entries_of node passed = repeated (look_line node passed.line) passed.looks ++ exchange_line node passed

-- `open L S V V V V V V V V`
abbrev pub opening_line : Opening → List ℕ
opening_line opening = codes "open " ++ decimal opening.line ++ values_text (opening.content.stamp ∷ opening.content.words) ++ codes "\n"

-- `memory NODES LINES`, and what lines open with
abbrev pub log_head : Size → List Opening → List ℕ
log_head size openings = codes "memory " ++ decimal size.nodes ++ codes " " ++ decimal size.lines ++ codes "\n" ++ flat_map opening_line openings
