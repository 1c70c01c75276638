-- A step of a line: what one event of one node does to its state.
use Rattle.std.specs.Prelude.{◌≡◌, ℕ, Bool, true, false, Option, Some, None}
use Rattle.sci_words.specs.declared.tags.Tag.{Tag}
use Rattle.sci_words.specs.declared.memory.Mem.{Mem}
use Rattle.sci_core.specs.declared.lines.Line.{Line}
use Rattle.sci_core.specs.declared.pending.Pending.{Pending}
use Rattle.sci_core.specs.declared.events.Event.{Event}
use Rattle.sci_core.specs.declared.rows.Change.{Change}
use Rattle.sci_core.specs.declared.rows.Change.TheVariants.{OfMemory, OfTag}
use Rattle.sci_core.specs.declared.rows.Place.{Place}
use Rattle.sci_core.specs.declared.rows.Place.TheVariants.{Memory, Node}
use Rattle.sci_core.specs.declared.rows.Carry.{Carry}
use Rattle.sci_core.specs.declared.rows.Carry.TheVariants.{Stays, Takes, Gives}
use Rattle.sci_core.specs.State.{State, update, blank}
use Rattle.sci_core.specs.declared.rows.Exchange.{Exchange}
use Rattle.sci_core.specs.Table.Purging.{can_count}

-- the word found is the row's word before
abbrev pub Finds : State → Change → Type 0
Finds s (OfMemory before after) = s.memory ≡ before
Finds s (OfTag x before after) = s.tags x ≡ before

abbrev pub memory_after : Mem → Change → Mem
memory_after m (OfMemory before after) = after
memory_after m (OfTag x before after) = m

abbrev pub tags_after : (ℕ → Tag) → Change → ℕ → Tag
tags_after f (OfMemory before after) = f
tags_after f (OfTag x before after) = update f x after

-- the line in a slot that is at home
abbrev pub slot_at : State → Place → Option Line
slot_at s Memory = s.memory_slot
slot_at s (Node x) = s.slots x

abbrev pub line_in : Option Line → Line
line_in (Some l) = l
line_in None = blank

-- the line that is taken into the hand, or a blank one
abbrev pub taken_line : State → Carry → Line
taken_line s Stays = blank
taken_line s (Takes x) = line_in (slot_at s x)
taken_line s (Gives x l) = blank

-- a slot that is taken is at home
abbrev pub IsAtHome : State → Carry → Type 0
IsAtHome s Stays = Unit {0}
IsAtHome s (Takes x) = slot_at s x ≡ Some (line_in (slot_at s x))
IsAtHome s (Gives x l) = Unit {0}

abbrev pub memory_slot_after : Option Line → Carry → Option Line
memory_slot_after o Stays = o
memory_slot_after o (Takes Memory) = None
memory_slot_after o (Takes (Node x)) = o
memory_slot_after o (Gives Memory l) = Some l
memory_slot_after o (Gives (Node x) l) = o

abbrev pub slots_after : (ℕ → Option Line) → Carry → ℕ → Option Line
slots_after f Stays = f
slots_after f (Takes Memory) = f
slots_after f (Takes (Node x)) = update f x None
slots_after f (Gives Memory l) = f
slots_after f (Gives (Node x) l) = update f x (Some l)

-- an exchange changes one word, at most one slot, and the actor's step
abbrev pub stepped : State → ℕ → Exchange → State
stepped s me x = record {
  memory = memory_after s.memory x.change;
  tags = tags_after s.tags x.change;
  steps = update s.steps me x.after;
  memory_slot = memory_slot_after s.memory_slot x.carry;
  slots = slots_after s.slots x.carry;
}

-- both links are recorded of an entry in Roll
abbrev pub look_back : Bool → Option (Option ℕ × ℕ) → Option ℕ → Option ℕ → Pending
look_back told seen f (Some b) = Pending.Rolling told (Some (f, b))
look_back told seen f None = Pending.Rolling told seen

-- what a look at the own tag records
abbrev pub look_of : Pending → Tag → Pending
look_of (Pending.Purging l seen) t = Pending.Purging l (Some t.forw)
look_of (Pending.Leaving d l seen) t = Pending.Leaving d l (Some t.forw)
look_of (Pending.Rolling told seen) t = look_back told seen t.forw t.back
look_of p t = p

-- the node me looked at its own tag
abbrev pub looked : State → ℕ → State
looked s me = record s { steps = update s.steps me (look_of (s.steps me) (s.tags me)) }

abbrev pub is_look : Event → Bool
is_look Event.Look = true
is_look _ = false

-- a write of words is counted by the stamp
abbrev pub CanCount : Pending → Event → Type 0
CanCount (Pending.Purging l seen) (Event.Written (Some words)) = can_count l ≡ true
CanCount _ _ = Unit {0}
