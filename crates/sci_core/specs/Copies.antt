-- The copies of a line: in the slots that are at home, and in the hands that have a slot. This project's profile.
use Rattle.std.specs.Prelude.{◌≡◌, ◌⊎◌, ℕ, true, Option, Some, None}
use Rattle.sci_core.specs.declared.lines.Line.{Line}
use Rattle.sci_core.specs.declared.pending.Pending.{Pending}
use Rattle.sci_core.specs.State.{State}
use Rattle.sci_core.specs.Shape.{kept_line, phase_of}
use Rattle.sci_core.specs.Law.{has_slot, has_memory_slot}

-- it copies the bytes of node i
abbrev pub IsCopying : Pending → ℕ → Type 0
IsCopying (Pending.Copying forw w line) i = forw ≡ i
IsCopying _ i = ⊥

-- node j has the slot of node i in its hand: its own, or that of the node that it copies
abbrev pub HasInHand : State → ℕ → ℕ → Type 0
HasInHand s j i = ((j ≡ i) × (has_slot (phase_of (s.steps i)) ≡ true)) ⊎ IsCopying (s.steps j) i

-- node j has memory's slot in its hand
abbrev pub HasMemoryInHand : State → ℕ → Type 0
HasMemoryInHand s j = has_memory_slot (phase_of (s.steps j)) ≡ true

-- the copy of node i is this line: it is in the slot, or the hand that has the slot keeps it
abbrev pub IsCopy : State → ℕ → Line → Type 0
IsCopy s i v = (s.slots i ≡ Some v) ⊎ ((s.slots i ≡ None) × ((j : ℕ) × HasInHand s j i × (kept_line (s.steps j) ≡ Some v)))

-- memory's copy is this line
abbrev pub IsMemoryCopy : State → Line → Type 0
IsMemoryCopy s v = (s.memory_slot ≡ Some v) ⊎ ((s.memory_slot ≡ None) × ((j : ℕ) × HasMemoryInHand s j × (kept_line (s.steps j) ≡ Some v)))
