-- A stencil's plain meaning: the cells after so many phases. This project's own.
use Rattle.std.specs.Prelude.{ℕ, zero, suc, ◌+◌, ◌%◌, ◌^◌, List, [], ◌∷◌, slice_index}

-- each cell becomes the sum of itself and its two neighbours, modulo 2 ^ 64; left is the cell before the first, and behind the
-- last stands 0
unfoldable pub sums : ℕ → List ℕ → List ℕ
sums left [] = []
sums left (x ∷ xs) = (left + x + slice_index xs 0) % 2 ^ 64 ∷ sums x xs

-- the cells after so many phases, with 0 outside
unfoldable pub plain : List ℕ → ℕ → List ℕ
plain cells zero = cells
plain cells (suc p) = sums 0 (plain cells p)
