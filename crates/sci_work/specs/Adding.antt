-- What the receipts of a node that counts tell. This project's own.
use Rattle.std.specs.Prelude.{◌≡◌, ℕ, List, ◌++◌, length, All}
use Rattle.sci_core.specs.declared.receipts.Receipt.{Receipt}
use Rattle.sci_port.specs.KeepsAll.{writes_in}
use Rattle.sci_port.specs.Receipts.{WritesBy}
use Rattle.sci_ops.specs.declared.goals.Write.{Write}
use Rattle.sci_ops.specs.Change.{change}

-- so many writes, each of which adds 1 to word 0
pub record AreAdds (count : ℕ) (writes : List Receipt) : Type 0 where
  pub count_is : length writes ≡ count
  pub each : All (WritesBy (change (Write.Add 0 1))) writes

-- behind the writes of before stand so many more, each of which adds 1 to word 0, and no others
pub record HasAdded (count : ℕ) (before after : List Receipt) : Type 0 where
  pub more : List Receipt
  pub are : AreAdds count more
  pub behind : writes_in after ≡ writes_in before ++ more
