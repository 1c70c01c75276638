-- What a line comes to on which every write adds 1 to word 0.
use Rattle.std.proofs.Common.{◌≡◌, ℕ, zero, suc, ◌+◌, ◌*◌, ◌%◌, ◌^◌, ◌<◌, Bool, true, false, cond, List, [], ◌∷◌, length, get_or, replicate, refl, sym, ap, subst, ◌∙◌, arith}
use Rattle.std.proofs.lemmas.List.{get_or-set_same, length-set}
use Rattle.std.proofs.lemmas.List.Elements.{All-head, All-nil, All-tail}
use Rattle.std.specs.Prelude.{All, slice_index}
use mathlib.Core.Option.{some, some-injective, some-ne-none}
use lib.ListN.{get_elem?}
use Rattle.sci_core.specs.declared.keeps.Keeps as keeps
use Rattle.sci_core.specs.declared.receipts.Receipt.{Receipt}
use Rattle.sci_core.specs.declared.receipts.Receipt.TheVariants.{Read, Passed, Wrote}
use Rattle.sci_core.specs.Closed.{ClosedLine, value_of}
use Rattle.sci_core.specs.Legal.{is_write}
use Rattle.sci_core.specs.State.{blank}
use Rattle.sci_port.specs.KeepsAll.{writes_in}
use Rattle.sci_port.specs.Receipts.{AllWriteBy, IsWhole, WritesBy, sum_below, times, writes_of}
use Rattle.sci_port.proofs.Iterated.{all_writes}
use Rattle.sci_ops.specs.declared.goals.Write.{Write}
use Rattle.sci_ops.specs.Change.{change}
use Rattle.sci_fine.specs.declared.seats.Seat.{Seat}
use Rattle.sci_fine.specs.Kept.{list_at, lists_of}
use Rattle.sci_work.specs.Adding.{AreAdds}
use Rattle.sci_work.specs.Hands.{AtEach}

abbrev by_one : List ℕ → List ℕ
by_one = change (Write.Add 0 1)

-- how many writes there are
one_counted : (b : Bool) (r : Receipt) (n : ℕ) (ws : List Receipt) → n ≡ length ws → cond b 1 0 + n ≡ length (cond b (r ∷ ws) ws)
one_counted true r n ws is = let z : 1 + n ≡ suc n = omega arith in z ∙ ap suc is
one_counted false r n ws is = let z : 0 + n ≡ n = omega arith in z ∙ is

writes_counted : (l : List Receipt) → writes_of l ≡ length (writes_in l)
writes_counted [] = refl
writes_counted (r ∷ rs) = one_counted (is_write r) r (writes_of rs) (writes_in rs) (writes_counted rs)

-- what holds of the writes holds of all
each_of : (l : List Receipt) → All (WritesBy by_one) (writes_in l) → (p : ℕ) (r : Receipt) → get_elem? l p ≡ some r → WritesBy by_one r
each_of [] all p r at = absurd (some-ne-none r (sym at))
each_of (Read words stamp ∷ rs) all zero r at = subst (WritesBy by_one) (some-injective (Read words stamp) r at) tt
each_of (Passed words stamp ∷ rs) all zero r at = subst (WritesBy by_one) (some-injective (Passed words stamp) r at) tt
each_of (Wrote before words stamp ∷ rs) all zero r at = subst (WritesBy by_one) (some-injective (Wrote before words stamp) r at) (All-head (WritesBy by_one) (Wrote before words stamp) (writes_in rs) all)
each_of (Read words stamp ∷ rs) all (suc p) r at = each_of rs all p r at
each_of (Passed words stamp ∷ rs) all (suc p) r at = each_of rs all p r at
each_of (Wrote before words stamp ∷ rs) all (suc p) r at = each_of rs (All-tail (WritesBy by_one) (Wrote before words stamp) (writes_in rs) all) p r at

sum_all : (n each : ℕ) (f : ℕ → ℕ) → ((j : ℕ) → j < n → f j ≡ each) → sum_below n f ≡ n * each
sum_all zero each f all = let z : 0 ≡ 0 * each = omega arith in z
sum_all (suc n) each f all =
    let less : sum_below n f ≡ n * each = sum_all n each f (λ j low. all j (omega (arith, low))) in
    let last : f n ≡ each = all n (omega arith) in
    let grown : n * each + each ≡ suc n * each = omega arith in
    ap (λ (k : ℕ). k + f n) less ∙ ap (λ (k : ℕ). n * each + k) last ∙ grown

-- 1 added so often to zeros
one_more : (k : ℕ) → (k % 2 ^ 64 + 1) % 2 ^ 64 ≡ suc k % 2 ^ 64
one_more k = omega arith

added_up : (k : ℕ) → (length (times by_one k (replicate 8 0)) ≡ 8) × (get_or (times by_one k (replicate 8 0)) 0 0 ≡ k % 2 ^ 64)
added_up zero = (refl, let z : 0 ≡ 0 % 2 ^ 64 = omega arith in z)
added_up (suc k) =
    let words = times by_one k (replicate 8 0) in let was = added_up k in let x = (get_or words 0 0 + 1) % 2 ^ 64 in (
      length-set words 0 x ∙ was.0,
      get_or-set_same words 0 x 0 (let n : length words ≡ 8 = was.0 in omega (arith, n)) ∙ ap (λ (z : ℕ). (z + 1) % 2 ^ 64) was.1 ∙ one_more k,
    )

module _ {K : Type 0} {g : keeps.Ghosts K} (adds : ℕ) where
  abbrev Counts : ℕ → Seat K g → Type 0
  Counts k s = AreAdds adds (writes_in s.receipts.list)

  each_by : (seats : List (Seat K g)) → AtEach Counts seats → (j : ℕ) → All (WritesBy by_one) (writes_in (list_at (lists_of seats) j))
  each_by [] all j = All-nil (WritesBy by_one)
  each_by (s ∷ ss) all zero = (all 0 s refl).each
  each_by (s ∷ ss) all (suc j) = each_by ss (λ k x at. all (suc k) x at) j

  each_count : (seats : List (Seat K g)) → AtEach Counts seats → (j : ℕ) → j < length seats → length (writes_in (list_at (lists_of seats) j)) ≡ adds
  each_count [] all j low = absurd (omega (arith, low))
  each_count (s ∷ ss) all zero low = (all 0 s refl).count_is
  each_count (s ∷ ss) all (suc j) low = each_count ss (λ k x at. all (suc k) x at) j (omega (arith, low))

  -- nodes that each added so often to a line of zeros, whose receipts are its history
  pub total_of : (seats : List (Seat K g)) (c : ClosedLine) (kept : List (List Receipt)) (nodes : ℕ) → length seats ≡ nodes → AtEach Counts seats → kept ≡ lists_of seats → IsWhole nodes blank (value_of c) (λ j. list_at kept j)
      → slice_index (value_of c).words 0 ≡ (nodes * adds) % 2 ^ 64
  total_of seats c kept nodes size all own history =
      let lists : ℕ → List Receipt = λ j. list_at (lists_of seats) j in
      let whole : IsWhole nodes blank (value_of c) lists = subst (λ (z : List (List Receipt)). IsWhole nodes blank (value_of c) (λ j. list_at z j)) own history in
      let by : AllWriteBy by_one lists = λ j p r at. each_of (lists j) (each_by seats all j) p r at in
      let ends : (value_of c).words ≡ times by_one (sum_below nodes (λ j. writes_of (lists j))) (replicate 8 0) = all_writes nodes blank (value_of c) lists by_one whole by in
      let sum : sum_below nodes (λ j. writes_of (lists j)) ≡ nodes * adds = sum_all nodes adds (λ j. writes_of (lists j)) (λ j low. writes_counted (lists j) ∙ each_count seats all j (subst (λ (n : ℕ). j < n) (sym size) low)) in
      let same : (value_of c).words ≡ times by_one (nodes * adds) (replicate 8 0) = ends ∙ ap (λ (k : ℕ). times by_one k (replicate 8 0)) sum in
      ap (λ (ws : List ℕ). get_or ws 0 0) same ∙ (added_up (nodes * adds)).1
