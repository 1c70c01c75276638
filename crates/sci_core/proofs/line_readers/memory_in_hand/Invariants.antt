use Rattle.std.proofs.Common.{ℕ, ◌<◌}
use Rattle.sci_core.specs.Hands.{HasMemorySlot}
use Rattle.sci_core.specs.Laid.{step_laid}
use Rattle.sci_core.proofs.line_readers.memory_in_hand.Given as goal

abbrev pub invariant-loop-place : goal.invariant-loop-place
invariant-loop-place l = (k : ℕ) → k < l.place → HasMemorySlot (step_laid l.stages l.lines k) → ⊥
