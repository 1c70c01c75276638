-- What a line of a log tells, and the event that it means where the lines stand so. This project's profile.
use Rattle.std.specs.Prelude.{◌≡◌, ℕ, Bool, true, false, ◌&&◌, nat_lt, Option, Some, None, Result, Ok, Err, ◌==◌, if◌then◌else◌}
use Rattle.std.specs.Str.{bytes_eq}
use Rattle.sci_words.specs.declared.tags.Tag.{Tag}
use Rattle.sci_words.specs.Tag.{name_of}
use Rattle.sci_core.specs.declared.events.Event.{Event}
use Rattle.sci_core.specs.declared.rows.Change.{Change}
use Rattle.sci_core.specs.declared.rows.Change.TheVariants.{OfMemory, OfTag}
use Rattle.sci_core.specs.State.{State}
use Rattle.sci_core.specs.Answers.{row_at}
use Rattle.sci_script.specs.declared.commands.Size.{Size}
use Rattle.sci_logs.specs.declared.entries.Entry.{Entry}
use Rattle.sci_logs.specs.declared.entries.Deviation.{Deviation}
use Rattle.sci_logs.specs.declared.told.Asks.{Asks}
use Rattle.sci_logs.specs.declared.told.Found.{Found}
use Rattle.sci_logs.specs.declared.told.Told.{Told}
use Rattle.sci_logs.specs.declared.told.Noted.{Noted}
use Rattle.sci_logs.specs.Steps.{Takes}

-- the event that asks for this tag
abbrev pub event_on : Asks → Tag → Event
event_on Asks.AttachFresh found = Event.AttachFresh found
event_on Asks.Hold found = Event.Hold found
event_on Asks.Convert found = Event.Convert found
event_on Asks.BeginPurge found = Event.BeginPurge found
event_on Asks.AttachDirty found = Event.AttachDirty found
event_on Asks.PurgeOne found = Event.PurgeOne found
event_on Asks.Roll found = Event.Roll found
event_on Asks.TellSuccessor found = Event.TellSuccessor found
event_on Asks.TellPredecessor found = Event.TellPredecessor found
event_on Asks.Adopt found = Event.Adopt found
event_on Asks.Leave found = Event.Leave found
event_on Asks.Promote found = Event.Promote found

-- the entry of this event
abbrev pub entry_of : Noted → Event → Entry
entry_of r event = record { node = r.node; line = r.line; event = event; claim = r.claim }

-- whose tag it is: the acting node's own, where none is told
abbrev pub whose_tag : ℕ → Option ℕ → ℕ
whose_tag me None = me
whose_tag me (Some node) = node

-- the exchange would change this node's tag
abbrev pub is_on : ℕ → Change → Bool
is_on node (OfMemory before after) = false
is_on node (OfTag x before after) = x == node

-- the tag that is asked for, where this one stands: a name is that of the tag that stands
abbrev pub asked_tag : Tag → Found → Option Tag
asked_tag stands (Found.Named sample) = if bytes_eq (name_of stands) (name_of sample) then Some stands else None
asked_tag stands (Found.Exactly tag) = Some tag

-- an event on a node's tag: one of that node, or not in turn
abbrev pub on_tag_of : State → ℕ → ℕ → Event → Result Event Deviation
on_tag_of s me node event = if is_on node (row_at s me event).change then Ok event else Err Deviation.NotInTurn

abbrev pub asking : State → ℕ → ℕ → Asks → Option Tag → Result Event Deviation
asking s me node asks None = Err Deviation.AnotherWord
asking s me node asks (Some tag) = on_tag_of s me node (event_on asks tag)

-- the event that is meant, or why it can't be one
abbrev pub meant : State → ℕ → Told → Result Event Deviation
meant s me (Told.Event event) = Ok event
meant s me (Told.On asks whose found) = asking s me (whose_tag me whose) asks (asked_tag (s.tags (whose_tag me whose)) found)

-- the event that is meant is the table's step, from the lines s to the lines t, and this is said of it
abbrev pub TakesAs : ℕ → (ℕ → State) → Noted → Result Event Deviation → Result (Unit {0}) Deviation → (ℕ → State) → Type 0
TakesAs n s r (Ok event) said t = Takes n s (entry_of r event) said t
TakesAs n s r (Err d) said t = (said ≡ Err d) × ((l : ℕ) → t l ≡ s l)

abbrev pub TakesTold : ℕ → (ℕ → State) → Noted → Result (Unit {0}) Deviation → (ℕ → State) → Type 0
TakesTold n s r said t = TakesAs n s r (meant (s r.line) r.node r.told) said t

-- the nodes and the line are there
abbrev pub is_told_in : ℕ → Told → Bool
is_told_in nodes (Told.On asks (Some whose) found) = nat_lt whose nodes
is_told_in nodes told = true

abbrev pub is_noted_in : Size → Noted → Bool
is_noted_in size r = nat_lt r.node size.nodes && (nat_lt r.line size.lines && is_told_in size.nodes r.told)

abbrev pub IsNotedIn : Size → Noted → Type 0
IsNotedIn size r = is_noted_in size r ≡ true
