-- What an operation writes.
use Rattle.std.specs.Prelude.{◌≡◌, ℕ, ◌+◌, ◌^◌, ◌%◌, List, length, slice_index, slice_set}
use Rattle.sci_ops.specs.declared.goals.Goal.{Goal}
use Rattle.sci_ops.specs.declared.goals.Write.{Write}

-- the words after a write: one is replaced, a number is added to one modulo 2 ^ 64, or all eight are replaced
abbrev pub change : Write → List ℕ → List ℕ
change (Write.Store word value) words = slice_set words word value
change (Write.Add word delta) words = slice_set words word ((slice_index words word + delta) % 2 ^ 64)
change (Write.Line new) words = new

-- what an operation stores fits whenever what it replaces does
abbrev pub StoresFitting : (List ℕ → Type 0) → Goal → Type 0
StoresFitting fits (Goal.Write write) = (words : List ℕ) → length words ≡ 8 → fits words → fits (change write words)
StoresFitting fits _ = Unit {0}
