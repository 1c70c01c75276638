use Rattle.std.proofs.Common.{◌≡◌, ℕ, ◌+◌, ◌*◌, ◌/◌, ◌%◌, ◌<◌, ◌≤◌, List, ◌++◌, length, get_or, slice_index, drop, take, refl, lit<, inl, inr, sym, subst, ap, ◌∙◌, arith, length-append, length-drop, get_or-drop, get_or-append-add}
use Rattle.std.proofs.lemmas.List.{get_or_append_left, get_or-take, length-take-le, ext_get_or}
use Rattle.std.proofs.Math.Seq.{take-add}
use Rattle.std.proofs.lemmas.Bool.{cases_lt}
use Rattle.std.proofs.Math.Nat.{div-add-mod, mod-eq_of_lt, mul-le-mul_left}
use Rattle.sci_work.specs.Stencil.{FitsStencil, HoldsTile}
use Rattle.sci_work.specs.Shares.{IsShare, IsWork, StandsAt}

pub same_tile : (nodes t tile : ℕ) → 0 < nodes → tile ≤ t → t < tile + nodes → t % nodes ≡ tile % nodes → t ≡ tile
same_tile nodes t tile some from to mods =
    let q = t / nodes in let p = tile / nodes in
    let d = div-add-mod t nodes in let e = div-add-mod tile nodes in
    let more : p < q → ⊥ = λ h. let le : p + 1 ≤ q = omega arith in let m = mul-le-mul_left nodes le in omega (arith, m) in
    let less : q < p → ⊥ = λ h. let le : q + 1 ≤ p = omega arith in let m = mul-le-mul_left nodes le in omega (arith, m) in
    let same : q ≡ p = omega (arith, more, less) in
    let m = ap (λ k. nodes * k) same in omega (arith, m)

-- the node's first tile is its number, and none is below
pub none_shared : (cells : List ℕ) (nodes node : ℕ) (share : List ℕ) → node < nodes → IsShare cells nodes node node share
none_shared cells nodes node share low tile j below mods small =
    let far : tile < nodes = omega arith in let e = mod-eq_of_lt far in absurd (omega (arith, e, mods, below))

-- the node's next tile is added
pub shared_more : (cells : List ℕ) (nodes node tile : ℕ) (share words : List ℕ) → 0 < nodes → tile % nodes ≡ node → length share ≡ 7 * (tile / nodes) → length words ≡ 8
    → IsShare cells nodes node tile share → HoldsTile cells tile words → IsShare cells nodes node (tile + nodes) (share ++ drop 1 words)
shared_more cells nodes node tile share words some own size eight known holds t j below mods low =
    let n : length (drop 1 words) ≡ 7 = omega (arith, length-drop 1 words) in
    let all : length (share ++ drop 1 words) ≡ length share + 7 = omega (arith, length-append share (drop 1 words)) in
    elim (cases_lt t tile) [
      | inl early ↦
          let s = known t j early mods low in
          record { inside = omega (arith, s.inside); is = get_or_append_left share (drop 1 words) 0 (7 * (t / nodes) + j) s.inside ∙ s.is }
      | inr late ↦
          let same : t ≡ tile = same_tile nodes t tile some late below (mods ∙ sym own) in
          let P : ℕ → Type 0 = λ k. StandsAt cells nodes (share ++ drop 1 words) k j in
          let place : 7 * (tile / nodes) + j ≡ length share + j = omega arith in
          let one : 1 + j ≡ j + 1 = omega arith in
          subst P (sym same) (record {
            inside = omega arith;
            is = ap (λ k. get_or (share ++ drop 1 words) k 0) place ∙ get_or-append-add share (drop 1 words) j 0 ∙ get_or-drop 1 words j 0 ∙ ap (λ k. get_or words k 0) one ∙ holds j low;
          })
    ]

-- a whole tile stands in the share
pub inside_share : (cells : List ℕ) (nodes tiles : ℕ) (share : List ℕ) (tile : ℕ) → IsShare cells nodes (tile % nodes) tiles share → tile < tiles → 7 * (tile / nodes) + 7 ≤ length share
inside_share cells nodes tiles share tile known low = let s = known tile 6 low refl (lit< tt) in let i = s.inside in omega arith

-- seven more cells in order
pub seven_more : (P s : List ℕ) (tile : ℕ) → 7 * tile + 7 ≤ length P → length s ≡ 7 → ((j : ℕ) → j < 7 → slice_index s j ≡ slice_index P (7 * tile + j)) → take (7 * tile) P ++ s ≡ take (7 * (tile + 1)) P
seven_more P s tile inside seven cells =
    let n : length (take 7 (drop (7 * tile) P)) ≡ 7 = length-take-le 7 (drop (7 * tile) P) (omega (arith, length-drop (7 * tile) P)) in
    let same : s ≡ take 7 (drop (7 * tile) P) = ext_get_or 0 s (take 7 (drop (7 * tile) P)) (seven ∙ sym n) (λ j low. cells j (omega arith) ∙ sym (get_or-drop (7 * tile) P j 0) ∙ sym (get_or-take 7 (drop (7 * tile) P) j 0 (omega arith))) in
    let e : 7 * tile + 7 ≡ 7 * (tile + 1) = omega arith in
    ap (λ t. take (7 * tile) P ++ t) same ∙ sym (take-add (7 * tile) 7 P) ∙ ap (λ k. take k P) e

-- the fact of a stencil is that of its work
pub is_work : (kept cells : List ℕ) (last phases tiles : ℕ) → kept ≡ cells → last ≡ phases → length cells ≡ 7 * tiles → tiles ≤ 512 → phases ≤ 1000000 → IsWork (FitsStencil kept last) cells phases tiles (2 * tiles)
is_work kept cells last phases tiles e f whole few fit =
    let same : IsWork (FitsStencil cells phases) cells phases tiles (2 * tiles) =
    record { gives = λ line words h. h; takes = λ line words h. h; whole = whole; lines_are = refl; few = few; phases_fit = omega (arith, fit) } in
    subst (λ (x : List ℕ). IsWork (FitsStencil x last) cells phases tiles (2 * tiles)) (sym e) (subst (λ (p : ℕ). IsWork (FitsStencil cells p) cells phases tiles (2 * tiles)) (sym f) same)
