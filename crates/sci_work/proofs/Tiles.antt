-- The writes of a node of a stencil, tile by tile.
use Rattle.std.proofs.Common.{◌≡◌, ◌≢◌, ℕ, zero, suc, ◌+◌, ◌-◌, ◌*◌, ◌%◌, ◌<◌, ◌≤◌, List, [], ◌∷◌, ◌++◌, append-nil, length, get_or, slice_index, drop, take, sym, ap, ◌∙◌, arith, length-drop, get_or-drop}
use Rattle.std.proofs.lemmas.List.{ext_get_or, get_or-take, length-take-le}
use Rattle.std.proofs.Math.Nat.{mod-eq_of_lt}
use Rattle.sci_work.specs.Plain.{plain}
use Rattle.sci_work.specs.Stencil.{HoldsTile, phase_writes, tile_words, tile_writes}
use Rattle.sci_work.proofs.Plain.{length-plain}
use Rattle.sci_work.proofs.Sharing.{same_tile}
use Rattle.sci_work.proofs.Written.{if_other, if_same}

-- eight words with a phase's number and one and a whole tile are the tile's at that phase
pub tile_is : (cells : List ℕ) (phase tile : ℕ) (words : List ℕ) → length words ≡ 8 → 7 * tile + 7 ≤ length cells → slice_index words 0 ≡ phase + 1 → HoldsTile (plain cells phase) tile words → words ≡ tile_words cells phase tile
tile_is cells phase tile words eight inside number holds = ext_get_or 0 words (tile_words cells phase tile) (eight ∙ ap suc (sym seven)) places
  where
    P : List ℕ
    P = plain cells phase

    seven : length (take 7 (drop (7 * tile) P)) ≡ 7
    seven = length-take-le 7 (drop (7 * tile) P) (let n = length-plain cells phase in omega (arith, n, inside, length-drop (7 * tile) P))

    places : (j : ℕ) → j < length words → get_or words j 0 ≡ get_or (tile_words cells phase tile) j 0
    places zero low = number
    places (suc i) low =
        let small : i < 7 = omega (arith, low, eight) in let next : suc i ≡ i + 1 = omega arith in
        ap (λ (k : ℕ). get_or words k 0) next ∙ holds i small ∙ sym (get_or-drop (7 * tile) P i 0) ∙ sym (get_or-take 7 (drop (7 * tile) P) i 0 small)

-- so as it opens
pub opening_is : (cells : List ℕ) (tile : ℕ) (words : List ℕ) → length words ≡ 8 → 7 * tile + 7 ≤ length cells → slice_index words 0 ≡ 1 → ((j : ℕ) → j < 7 → slice_index words (j + 1) ≡ slice_index cells (7 * tile + j)) → words ≡ tile_words cells 0 tile
unfolding plain
opening_is cells tile words eight inside number holds = tile_is cells 0 tile words eight inside number holds

module _ (cells : List ℕ) (nodes node phase : ℕ) where
  -- none of these tiles is the node's
  no_tile : (from more : ℕ) → ((t : ℕ) → from ≤ t → t < from + more → t % nodes ≢ node) → tile_writes cells nodes node phase (from + more) ≡ tile_writes cells nodes node phase from
  no_tile from zero none = let e : from + 0 ≡ from = omega arith in ap (tile_writes cells nodes node phase) e
  no_tile from (suc more) none =
      let e : from + suc more ≡ suc (from + more) = omega arith in
      ap (tile_writes cells nodes node phase) e
      ∙ if_other ((from + more) % nodes) node _ _ (none (from + more) (omega arith) (omega arith))
      ∙ no_tile from more (λ t low high. none t low (omega (arith, high)))

  -- the node's first tile is its number
  pub first_tile : node < nodes → [] ≡ tile_writes cells nodes node phase node
  first_tile low =
      let e : 0 + node ≡ node = omega arith in
      sym (no_tile 0 node (λ t least less same. let far : t < nodes = omega (arith, less, low, e) in let m = mod-eq_of_lt far in omega (arith, m, same, less, e))) ∙ ap (tile_writes cells nodes node phase) e

  -- its next one stands so many tiles on
  pub next_tile : (tile : ℕ) → node < nodes → tile % nodes ≡ node → (2 * tile + phase % 2, tile_words cells phase tile) ∷ tile_writes cells nodes node phase tile ≡ tile_writes cells nodes node phase (tile + nodes)
  next_tile tile low own =
      let some : 0 < nodes = omega (arith, low) in
      let more : ℕ = nodes - 1 in
      let e : suc tile + more ≡ tile + nodes = omega (arith, some) in
      sym (if_same (tile % nodes) node _ _ own)
      ∙ sym (no_tile (suc tile) more (λ t least less same. let one = same_tile nodes t tile some (omega (arith, least)) (omega (arith, less, e)) (same ∙ sym own) in omega (arith, one, least)))
      ∙ ap (tile_writes cells nodes node phase) e

  -- and past the last none is
  pub last_tile : (tile tiles : ℕ) → node < nodes → tile % nodes ≡ node → tiles ≤ tile → tile < tiles + nodes → tile_writes cells nodes node phase tile ≡ tile_writes cells nodes node phase tiles
  last_tile tile tiles low own past near =
      let some : 0 < nodes = omega (arith, low) in
      let more : ℕ = tile - tiles in
      let e : tiles + more ≡ tile = omega (arith, past) in
      sym (ap (tile_writes cells nodes node phase) e)
      ∙ no_tile tiles more (λ t least less same. let one = same_tile nodes tile t some (omega (arith, less, e)) (omega (arith, near, least)) (own ∙ sym same) in omega (arith, one, less, e))

  -- so one more write in front is the node's next
  pub tile_more : (tile line : ℕ) (words : List ℕ) (ws : List (ℕ × List ℕ)) → node < nodes → tile % nodes ≡ node → ws ≡ (line, words) ∷ [] → line ≡ 2 * tile + phase % 2 → words ≡ tile_words cells phase tile
      → ws ++ tile_writes cells nodes node phase tile ≡ tile_writes cells nodes node phase (tile + nodes)
  tile_more tile line words ws low own is at are =
      let before = tile_writes cells nodes node phase tile in
      ap (λ (z : List (ℕ × List ℕ)). z ++ before) is ∙ ap (λ (l : ℕ). (l, words) ∷ before) at ∙ ap (λ (w : List ℕ). (2 * tile + phase % 2, w) ∷ before) are ∙ next_tile tile low own

-- phase by phase
pub first_phase : (cells : List ℕ) (nodes tiles node : ℕ) (ws : List (ℕ × List ℕ)) → ws ≡ tile_writes cells nodes node 0 tiles → ws ≡ phase_writes cells nodes tiles node 1
first_phase cells nodes tiles node ws is = is ∙ sym (append-nil (tile_writes cells nodes node 0 tiles))

pub next_phase : (cells : List ℕ) (nodes tiles node phase : ℕ) (ws : List (ℕ × List ℕ)) → ws ≡ tile_writes cells nodes node (phase + 1) tiles → ws ++ phase_writes cells nodes tiles node (phase + 1) ≡ phase_writes cells nodes tiles node (phase + 1 + 1)
next_phase cells nodes tiles node phase ws is =
    let e : suc (phase + 1) ≡ phase + 1 + 1 = omega arith in
    ap (λ (z : List (ℕ × List ℕ)). z ++ phase_writes cells nodes tiles node (phase + 1)) is ∙ ap (phase_writes cells nodes tiles node) e
