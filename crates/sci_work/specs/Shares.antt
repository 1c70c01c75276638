-- How the work of a stencil is shared out: node k works on the tiles t with t mod nodes = k. This project's own.
use Rattle.std.specs.Prelude.{◌≡◌, ℕ, ◌+◌, ◌*◌, ◌/◌, ◌%◌, ◌^◌, ◌<◌, ◌≤◌, List, length, slice_index}
use Rattle.sci_work.specs.Stencil.{FitsStencil}

-- the fact of the lines is the stencil's, of cells in whole tiles, with two lines for each and phases whose numbers fit
pub record IsWork (fits : ℕ → List ℕ → Type 0) (cells : List ℕ) (phases tiles lines : ℕ) : Type 0 where
  pub gives : (line : ℕ) (words : List ℕ) → fits line words → FitsStencil cells phases line words
  pub takes : (line : ℕ) (words : List ℕ) → FitsStencil cells phases line words → fits line words
  pub whole : length cells ≡ 7 * tiles
  pub lines_are : lines ≡ 2 * tiles
  pub few : tiles ≤ 512
  pub phases_fit : phases + 2 < 2 ^ 64

-- cell j of a tile stands where the share has its node's tiles one after another
pub record StandsAt (cells : List ℕ) (nodes : ℕ) (share : List ℕ) (tile j : ℕ) : Type 0 where
  pub inside : 7 * (tile / nodes) + j < length share
  pub is : slice_index share (7 * (tile / nodes) + j) ≡ slice_index cells (7 * tile + j)

-- the share of a node has the cells of its tiles, up to a number of tiles
abbrev pub IsShare : List ℕ → ℕ → ℕ → ℕ → List ℕ → Type 0
IsShare cells nodes node tiles share = (tile j : ℕ) → tile < tiles → tile % nodes ≡ node → j < 7 → StandsAt cells nodes share tile j
