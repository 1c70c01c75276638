-- What a node asks of the table in numbers, and what it is answered. This project's profile.
use Rattle.std.specs.Prelude.{◌≡◌, ℕ, ◌<◌, ◌≤◌, ◌⊎◌, true, false, Some}
use Rattle.sci_words.specs.declared.tags.Tag.{Tag}
use Rattle.sci_words.specs.Refused.{tag_refusal}
use Rattle.sci_core.specs.declared.lines.Line.{Line}
use Rattle.sci_core.specs.declared.stages.Stage.{Stage}
use Rattle.sci_core.specs.declared.events.Event.{Event}
use Rattle.sci_core.specs.declared.outlines.Outline.{Outline}
use Rattle.sci_core.specs.Answers.{is_allowed}
use Rattle.sci_core.specs.Stage.{pending_of, stage_of, outline_of, own_after}
use Rattle.sci_core.specs.State.{blank}
use Rattle.sci_core.specs.Step.{look_of}
use Rattle.sci_core.specs.Table.{has_row, row_of}
use Rattle.sci_c.specs.declared.faults.Fault.{Fault}
use Rattle.sci_c.specs.declared.faults.Fault.TheVariants.{Word, BadNodes, NotInTurn, NoSuchNode, NoSuchStep, NoSuchEvent, NoSuchRow}
use Rattle.sci_c.specs.declared.steps.StepNumbers.{StepNumbers}
use Rattle.sci_c.specs.declared.events.EventNumbers.{EventNumbers}
use Rattle.sci_c.specs.declared.rows.RowNumbers.{RowNumbers}
use Rattle.sci_c.specs.Faults.{fault_number}
use Rattle.sci_c.specs.Links.{IsTag}
use Rattle.sci_c.specs.Steps.{IsStep}
use Rattle.sci_c.specs.Events.{IsEvent}
use Rattle.sci_c.specs.Rows.{row_fits, row_numbers}

-- a number answers a call: 0 where what it asks for is true, else a fault's number, and that fault is there
abbrev pub Tells : ℕ → Type 0 → (Fault → Type 0) → Type 0
Tells number Fine IsThere = ((number ≡ 0) × Fine) ⊎ ((f : Fault) × (number ≡ fault_number f) × IsThere f)

-- the node me, one of `nodes`, is in this step, and means this event
abbrev pub Asks : ℕ → ℕ → StepNumbers → EventNumbers → Stage → Event → Type 0
Asks me nodes step event s e = (0 < nodes) × (nodes ≤ 1024) × (me < nodes) × IsStep step s × IsEvent event e

-- what is wrong with what was handed over: the first of these
abbrev pub IsFault : ℕ → ℕ → StepNumbers → EventNumbers → Fault → Type 0
IsFault me nodes step event BadNodes = (nodes ≡ 0) ⊎ (1024 < nodes)
IsFault me nodes step event NoSuchNode = (0 < nodes) × (nodes ≤ 1024) × (nodes ≤ me)
IsFault me nodes step event NoSuchStep = (0 < nodes) × (nodes ≤ 1024) × (me < nodes) × ((s : Stage) → IsStep step s → ⊥)
IsFault me nodes step event NoSuchEvent = (0 < nodes) × (nodes ≤ 1024) × (me < nodes) × ((s : Stage) × IsStep step s) × ((e : Event) → IsEvent event e → ⊥)
IsFault me nodes step event _ = ⊥

-- the step allows the event
abbrev pub Allows : ℕ → ℕ → StepNumbers → Line → EventNumbers → Type 0
Allows me nodes step own event = (s : Stage) × (e : Event) × Asks me nodes step event s e × (is_allowed nodes me (pending_of s own) e ≡ true)

-- it doesn't, or what was handed over is wrong
abbrev pub Forbids : ℕ → ℕ → StepNumbers → Line → EventNumbers → Fault → Type 0
Forbids me nodes step own event NotInTurn = (s : Stage) × (e : Event) × Asks me nodes step event s e × (is_allowed nodes me (pending_of s own) e ≡ false)
Forbids me nodes step own event f = IsFault me nodes step event f

-- the row of the table, but for lines
abbrev pub outline_at : ℕ → Stage → Line → Event → Outline
outline_at me s own e = outline_of (row_of me (pending_of s own) e)

-- the table has a row for what is asked
abbrev pub HasRow : ℕ → ℕ → StepNumbers → Line → EventNumbers → Stage → Event → Type 0
HasRow me nodes step own event s e = Asks me nodes step event s e × (has_row nodes me (pending_of s own) e ≡ true)

-- it has none, or what was handed over is wrong
abbrev pub HasNoRow : ℕ → ℕ → StepNumbers → Line → EventNumbers → Fault → Type 0
HasNoRow me nodes step own event NotInTurn = (s : Stage) × (e : Event) × Asks me nodes step event s e × (has_row nodes me (pending_of s own) e ≡ false)
HasNoRow me nodes step own event f = IsFault me nodes step event f

-- the numbers of the row: its words are words, and its nodes are of the line
abbrev pub IsRow : ℕ → ℕ → StepNumbers → Line → EventNumbers → RowNumbers → Type 0
IsRow me nodes step own event r = (s : Stage) × (e : Event) × HasRow me nodes step own event s e
    × (row_fits nodes (outline_at me s own e) ≡ true) × (r ≡ row_numbers (outline_at me s own e))

-- or why there are none
abbrev pub IsNoRow : ℕ → ℕ → StepNumbers → Line → EventNumbers → Fault → Type 0
IsNoRow me nodes step own event NoSuchRow = (s : Stage) × (e : Event) × HasRow me nodes step own event s e × (row_fits nodes (outline_at me s own e) ≡ false)
IsNoRow me nodes step own event f = HasNoRow me nodes step own event f

-- the actor's own line after the exchange, from the line that was in the slot
abbrev pub IsLineAfter : ℕ → ℕ → StepNumbers → Line → EventNumbers → Line → Line → Type 0
IsLineAfter me nodes step own event slot after = (s : Stage) × (e : Event) × HasRow me nodes step own event s e
    × (after ≡ own_after (outline_at me s own e).motion (outline_at me s own e).after e own slot)

-- what a look at the own tag records
abbrev pub Looks : StepNumbers → ℕ → StepNumbers → Type 0
Looks old own new = (s : Stage) × (t : Tag) × IsStep old s × IsTag own t × IsStep new (stage_of (look_of (pending_of s blank) t))

-- or why it records nothing
abbrev pub IsNoLook : StepNumbers → ℕ → Fault → Type 0
IsNoLook step own (Word r) = ((s : Stage) × IsStep step s) × (tag_refusal own ≡ Some r)
IsNoLook step own NoSuchStep = (s : Stage) → IsStep step s → ⊥
IsNoLook step own _ = ⊥
