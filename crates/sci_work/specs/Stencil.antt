-- What a stencil's lines hold: tile t stands in the lines 2t and 2t + 1, seven cells a tile. This project's own.
use Rattle.std.specs.Prelude.{◌≡◌, ℕ, ◌+◌, ◌*◌, ◌/◌, ◌%◌, ◌<◌, ◌≤◌, ◌⊎◌, ◌==◌, if◌then◌else◌, zero, suc, List, [], ◌∷◌, ◌++◌, drop, length, replicate, slice_index, take}
use Rattle.sci_work.specs.Plain.{plain}

-- words 1 to 7 are this tile of the cells
abbrev pub HoldsTile : List ℕ → ℕ → List ℕ → Type 0
HoldsTile cells tile words = (j : ℕ) → j < 7 → slice_index words (j + 1) ≡ slice_index cells (7 * tile + j)

-- the line shows its tile as it is after this phase, and the phase's number and one in word 0
pub record ShowsPhase (cells : List ℕ) (phases line : ℕ) (words : List ℕ) (phase : ℕ) : Type 0 where
  pub within : phase ≤ phases
  pub parity : phase % 2 ≡ line % 2
  pub inside : 7 * (line / 2) < length cells
  pub number : slice_index words 0 ≡ phase + 1
  pub cells_are : HoldsTile (plain cells phase) (line / 2) words

-- a line of a stencil: all zeros, or its tile after some phase
unfoldable pub FitsStencil : List ℕ → ℕ → ℕ → List ℕ → Type 0
FitsStencil cells phases line words = (words ≡ replicate 8 0) ⊎ ((phase : ℕ) × ShowsPhase cells phases line words phase)

-- tile t of the cells as they are after this phase, behind the phase's number and one
abbrev pub tile_words : List ℕ → ℕ → ℕ → List ℕ
tile_words cells phase t = (phase + 1) ∷ take 7 (drop (7 * t) (plain cells phase))

-- what a node writes at this phase, of the tiles below t, the last in front: node k those of the tiles t with t mod nodes = k
abbrev pub tile_writes : List ℕ → ℕ → ℕ → ℕ → ℕ → List (ℕ × List ℕ)
tile_writes cells nodes node phase zero = []
tile_writes cells nodes node phase (suc t) =
    if t % nodes == node then (2 * t + phase % 2, tile_words cells phase t) ∷ tile_writes cells nodes node phase t else tile_writes cells nodes node phase t

-- and at all phases below p
abbrev pub phase_writes : List ℕ → ℕ → ℕ → ℕ → ℕ → List (ℕ × List ℕ)
phase_writes cells nodes tiles node zero = []
phase_writes cells nodes tiles node (suc p) = tile_writes cells nodes node p tiles ++ phase_writes cells nodes tiles node p

-- from its opening to the last phase
abbrev pub stencil_writes : List ℕ → ℕ → ℕ → ℕ → ℕ → List (ℕ × List ℕ)
stencil_writes cells phases nodes tiles node = phase_writes cells nodes tiles node (phases + 1)

-- the cell before cell j of a tile with these words, where left is the cell before the tile; and the cell behind it
abbrev pub before : ℕ → List ℕ → ℕ → ℕ
before left words j = if j == 0 then left else slice_index words j

abbrev pub behind : ℕ → List ℕ → ℕ → ℕ
behind right words j = if j == 6 then right else slice_index words (j + 2)

-- the numbers of a stencil are within the limits: cells in 1 to 512 whole tiles
abbrev pub IsStencilSize : ℕ → ℕ → ℕ → ℕ → Type 0
IsStencilSize cells phases nodes capacity = (cells % 7 ≡ 0) × (7 ≤ cells) × (cells ≤ 3584) × (phases ≤ 1000000) × (1 ≤ nodes) × (nodes ≤ 64) × (1 ≤ capacity) × (capacity ≤ 1024)
