-- How many receipts there are. This project's profile.
use Rattle.std.specs.Prelude.{ℕ, ◌+◌, List, [], ◌∷◌, length}
use Rattle.sci_core.specs.declared.receipts.Receipt.{Receipt}

abbrev pub count_of : List (List Receipt) → ℕ
count_of [] = 0
count_of (l ∷ ls) = length l + count_of ls
