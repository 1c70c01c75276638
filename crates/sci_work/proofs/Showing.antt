use Rattle.std.proofs.Common.{◌≡◌, ℕ, ◌+◌, ◌*◌, ◌/◌, ◌%◌, ◌^◌, ◌<◌, ◌≤◌, List, length, slice_index, replicate, sym, subst, ap, ◌∙◌, inl, inr, refl, arith}
use Rattle.std.proofs.Common.{zero, suc, ◌∷◌, get_or}
use Rattle.std.proofs.lemmas.Bool.Decides.{nat_tests}
use lib.ListN.{get_or-eq_default}
use Rattle.sci_work.proofs.Plain.{get_or-plain, length-plain}
use Rattle.sci_work.specs.Stencil.{HoldsTile, FitsStencil, before, behind}
use Rattle.sci_work.specs.Plain.{plain}
use Rattle.sci_work.specs.Shares.{IsWork}
use Rattle.sci_port.specs.Banks.{BankWay}

half : (tile odd : ℕ) → odd < 2 → (2 * tile + odd) / 2 ≡ tile
half tile odd low = omega arith

-- a line of a tile with a phase's number shows the tile after that phase
pub shown : (cells : List ℕ) (phases tile odd : ℕ) (words : List ℕ) (phase : ℕ) → odd < 2 → FitsStencil cells phases (2 * tile + odd) words → slice_index words 0 ≡ phase + 1 → HoldsTile (plain cells phase) tile words
unfolding FitsStencil
shown cells phases tile odd words phase low fits is =
    elim fits [
      | inl zeros ↦ absurd (let z : slice_index words 0 ≡ 0 = ap (λ ws. slice_index ws 0) zeros in omega arith)
      | inr (p, shows) ↦
          let n = shows.number in
          let same : p ≡ phase = omega arith in
          let P : ℕ → Type 0 = λ q. HoldsTile (plain cells q) tile words in
          let Q : ℕ → Type 0 = λ t. HoldsTile (plain cells p) t words in
          subst P same (subst Q (half tile odd low) shows.cells_are)
    ]

-- and words that show it fit
pub fitting : (cells : List ℕ) (phases tile odd : ℕ) (words : List ℕ) (phase : ℕ) → phase ≤ phases → odd ≡ phase % 2 → 7 * tile < length cells → slice_index words 0 ≡ phase + 1 → HoldsTile (plain cells phase) tile words → FitsStencil cells phases (2 * tile + odd) words
unfolding FitsStencil
fitting cells phases tile odd words phase within parity inside number holds =
    let low : odd < 2 = omega arith in
    let at = half tile odd low in
    let Q : ℕ → Type 0 = λ t. HoldsTile (plain cells phase) t words in
    inr (
      phase,
      record {
        within = within;
        parity = omega arith;
        inside = omega arith;
        number = number;
        cells_are = subst Q (sym at) holds;
      },
    )

before_is : (P : List ℕ) (tile left : ℕ) (own : List ℕ) → HoldsTile P tile own → left ≡ get_or (0 ∷ P) (7 * tile) 0 → (j : ℕ) → j < 7 → before left own j ≡ get_or (0 ∷ P) (7 * tile + j) 0
before_is P tile left own holds is zero low = let e : 7 * tile + zero ≡ 7 * tile = omega arith in rw e is
before_is P tile left own holds is (suc i) low =
    let e : 7 * tile + suc i ≡ suc (7 * tile + i) = omega arith in
    let s : i + 1 ≡ suc i = omega arith in
    let h = holds i (omega arith) in
    let b : before left own (suc i) ≡ get_or own (suc i) 0 = grind (arith, nat_tests) in rw e (b ∙ ap (λ k. get_or own k 0) (sym s) ∙ h)

behind_is : (P : List ℕ) (tile right : ℕ) (own : List ℕ) → HoldsTile P tile own → right ≡ get_or P (7 * tile + 7) 0 → (j : ℕ) → j < 7 → behind right own j ≡ get_or P (7 * tile + j + 1) 0
behind_is P tile right own holds is j low =
    let h : j < 6 → get_or own (j + 1 + 1) 0 ≡ get_or P (7 * tile + (j + 1)) 0 = λ less. holds (j + 1) (omega arith) in
    let a : j + 1 + 1 ≡ j + 2 = omega arith in
    let b : 7 * tile + (j + 1) ≡ 7 * tile + j + 1 = omega arith in
    let h' : j < 6 → get_or own (j + 2) 0 ≡ get_or P (7 * tile + j + 1) 0 = rw (a, b) at h in
    grind (arith, nat_tests)

-- a tile advanced is the tile one phase on
pub advanced_holds : (cells : List ℕ) (phase tile left : ℕ) (own : List ℕ) (right : ℕ) (next : List ℕ)
    → HoldsTile (plain cells phase) tile own → left ≡ slice_index (0 ∷ plain cells phase) (7 * tile) → right ≡ slice_index (plain cells phase) (7 * tile + 7)
    → 7 * tile + 7 ≤ length cells
    → ((j : ℕ) → j < 7 → slice_index next (j + 1) ≡ (before left own j + slice_index own (j + 1) + behind right own j) % 2 ^ 64)
    → HoldsTile (plain cells (phase + 1)) tile next
advanced_holds cells phase tile left own right next holds l r inside steps j low =
    let P = plain cells phase in
    let b = before_is P tile left own holds l j low in
    let h = behind_is P tile right own holds r j low in
    let o = holds j low in
    steps j low ∙ ap (λ x. (x + get_or own (j + 1) 0 + behind right own j) % 2 ^ 64) b ∙ ap (λ x. (get_or (0 ∷ P) (7 * tile + j) 0 + x + behind right own j) % 2 ^ 64) o ∙ ap (λ x. (get_or (0 ∷ P) (7 * tile + j) 0 + get_or P (7 * tile + j) 0 + x) % 2 ^ 64) h ∙ sym (get_or-plain cells phase (7 * tile + j) (omega arith))

pub past : (cells : List ℕ) (phase i : ℕ) → length cells ≤ i → slice_index (plain cells phase) i ≡ 0
past cells phase i all = get_or-eq_default (plain cells phase) 0 (let n = length-plain cells phase in omega arith)

-- a tile as it opens
pub opens : (cells : List ℕ) (phases tile : ℕ) (words : List ℕ) → tile + tile < 2 ^ 64 → 7 * tile < length cells → slice_index words 0 ≡ 1 → ((j : ℕ) → j < 7 → slice_index words (j + 1) ≡ slice_index cells (7 * tile + j)) → FitsStencil cells phases (2 * tile) words
unfolding plain
opens cells phases tile words small inside number holds =
    let e : 2 * tile + 0 ≡ 2 * tile = omega arith in
    let P : ℕ → Type 0 = λ line. FitsStencil cells phases line words in
    subst P e (fitting cells phases tile 0 words 0 (omega arith) (omega arith) inside (omega arith) holds)

pub zeros_fit : (cells : List ℕ) (phases line : ℕ) → FitsStencil cells phases line (replicate 8 0)
unfolding FitsStencil
zeros_fit cells phases line = inl refl

-- a stencil's work over a bank with the same fact and the same lines
pub work_again : {F : Type 0} (fits : F → ℕ → List ℕ → Type 0) (cells : List ℕ) (phases tiles : ℕ) (k m : F) (w v : BankWay) → m ≡ k → v ≡ w → IsWork (fits k) cells phases tiles w.lines → IsWork (fits m) cells phases tiles v.lines
work_again {F} fits cells phases tiles k m w v fact way work =
    subst (λ (f : F). IsWork (fits f) cells phases tiles v.lines) (sym fact) (subst (λ (x : BankWay). IsWork (fits k) cells phases tiles x.lines) (sym way) work)
