-- A ring of numbers, for tests.
use Rattle.std.specs.Prelude.{◌≡◌, ℕ, zero, suc, ◌<◌, ◌+◌, ◌/◌, true, nat_eq, nat_lt, if◌then◌else◌}
use Rattle.std.proofs.Common.{arith}
use borrow.Author.Tests.{eqb-true}

-- turn 0 leads to the next, and from the last to 0; turn 1 leads to the half, and from 0 nowhere
abbrev pub Leads : ℕ → ℕ → ℕ → ℕ → Type 0
Leads last s zero t = t ≡ (if nat_lt s last then s + 1 else 0)
Leads last s (suc zero) t = (0 < s) × (t ≡ s / 2)
Leads last s (suc (suc turn)) t = ⊥

pub leads_below : (last s turn t : ℕ) → Leads last s turn t → turn < 2
leads_below last s zero t h = omega arith
leads_below last s (suc zero) t h = omega arith
leads_below last s (suc (suc turn)) t h = absurd h

pub same_number : (s t : ℕ) → nat_eq s t ≡ true → s ≡ t
same_number s t h = eqb-true s t h
