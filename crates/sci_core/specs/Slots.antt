-- Who has which slot in hand, and the lent and held bits that say so. This project's profile.
use Rattle.std.specs.Prelude.{◌≡◌, ◌⊎◌, ◌↔◌, ℕ, true, None}
use Rattle.sci_core.specs.State.{State}
use Rattle.sci_core.specs.Shape.{Phase, phase_of}
use Rattle.sci_core.specs.Copies.{HasInHand, HasMemoryInHand, IsCopying}

pub record HasSlotsInHands (s : State) : Type 0 where
  -- memory's slot is out exactly if the lent bit is set, and then in the hand of one node
  pub memory_out : (s.memory.lent ≡ true) ↔ (s.memory_slot ≡ None)
  pub memory_in_hand : (s.memory.lent ≡ true) ↔ ((j : ℕ) × HasMemoryInHand s j)
  pub memory_in_one : (j k : ℕ) → HasMemoryInHand s j → HasMemoryInHand s k → j ≡ k
  -- a node's slot is out exactly if a node has it in hand, and then one
  pub out : (i : ℕ) → (s.slots i ≡ None) ↔ ((j : ℕ) × HasInHand s j i)
  pub in_one : (i j k : ℕ) → HasInHand s j i → HasInHand s k i → j ≡ k
  -- the held bit is set exactly at a node that is Holding or being copied
  pub held : (i : ℕ) → ((s.tags i).held ≡ true) ↔ ((phase_of (s.steps i) ≡ Phase.Holding) ⊎ ((j : ℕ) × IsCopying (s.steps j) i))
