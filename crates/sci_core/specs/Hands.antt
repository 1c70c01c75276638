-- The line of the hand that has a slot. This project's profile.
use Rattle.std.specs.Prelude.{◌≡◌, ℕ, true, Option, Some, None}
use Rattle.sci_core.specs.declared.lines.Line.{Line}
use Rattle.sci_core.specs.declared.pending.Pending.{Pending}
use Rattle.sci_core.specs.Shape.{phase_of, kept_line}
use Rattle.sci_core.specs.Law.{has_memory_slot}

-- it has memory's slot in hand
abbrev pub HasMemorySlot : Pending → Type 0
HasMemorySlot p = has_memory_slot (phase_of p) ≡ true

-- a line that a step with this property keeps, or None where no step has it
abbrev pub FindsKept : (Pending → Type 0) → (ℕ → Pending) → Option Line → Type 0
FindsKept P steps None = (j : ℕ) → P (steps j) → ⊥
FindsKept P steps (Some v) = (j : ℕ) × P (steps j) × (kept_line (steps j) ≡ Some v)
