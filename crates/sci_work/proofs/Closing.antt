-- Lines that were closed by their own terms, as lines closed under their one fact.
use Rattle.std.proofs.Common.{◌≡◌, ℕ, zero, suc, ◌<◌, List, [], ◌∷◌, length, map, refl, sym, subst, ◌∙◌}
use Rattle.std.proofs.lemmas.List.{length-map}
use Rattle.std.specs.Prelude.{All}
use Rattle.std.specs.Global.{Vec}
use mathlib.Core.Option.{some, some-injective, some-ne-none}
use lib.ListN.{get_elem?}
use Rattle.sci_core.specs.declared.keeps.Keeps as keeps
use Rattle.sci_core.specs.declared.lines.Line.{Line}
use Rattle.sci_core.specs.declared.receipts.Receipt.{Receipt}
use Rattle.sci_core.specs.Closed.{ClosedLine, IsExactClosed, value_of}
use Rattle.sci_core.specs.State.{blank}
use Rattle.sci_port.proofs.Seated.{at_place}
use Rattle.sci_fine.specs.declared.line.FineLine.{FineLine}
use Rattle.sci_fine.specs.declared.seats.Seat.{Seat}
use Rattle.sci_fine.specs.Banks.{IsLine}
use Rattle.sci_fine.proofs.Elements.{inside, each_all}
use Rattle.sci_work.specs.declared.recording.ClosedMemory.{ClosedMemory}
use Rattle.sci_work.specs.declared.recording.Recording.{Recording}
use Rattle.sci_work.specs.Ended.{AreClosed, AreClosedOf, AreHistories, AreHistoriesOn, AreKept, AreKeptOn, AreOfHands, HaveNodes, IsHistoryOn, IsLineHistory, lists_in}
use Rattle.sci_work.specs.Hands.{AtEach}
use Rattle.sci_work.specs.Written.{AreWrittenAs}

-- lines of one fact, numbered from 0
pub closed_under : {K : Type 0} (fits : K → ℕ → List ℕ → Type 0) (nodes : ℕ) (keep : K) (count : ℕ) (lines : List (FineLine K)) (closed : List ClosedLine)
    → length lines ≡ count → AtEach (IsLine nodes keep) lines → AreClosedOf fits lines closed → AreClosed (fits keep) count closed
closed_under {K} fits nodes keep count lines closed size are ended = record {
  count_is = ended.count ∙ size;
  each = λ k c at.
      let l = at_place lines k (subst (λ (n : ℕ). k < n) ended.count (inside closed c k at)) in
      let i = are k l.0 l.1 in let e = ended.each k l.0 c l.1 at in
      record {
        exact = e.exact;
        fit = subst (λ (f : K). fits f k (value_of c).words) i.fact (subst (λ (n : ℕ). fits l.0.terms.keep n (value_of c).words) i.number e.fit);
      };
}

-- lines of so many nodes
pub nodes_under : {K : Type 0} (fits : K → ℕ → List ℕ → Type 0) (nodes : ℕ) (keep : K) (lines : List (FineLine K)) (closed : List ClosedLine)
    → AtEach (IsLine nodes keep) lines → AreClosedOf fits lines closed → HaveNodes nodes closed
nodes_under fits nodes keep lines closed are ended = each_all (λ (c : ClosedLine). length c.tags ≡ nodes) closed (λ k c at.
    let l = at_place lines k (subst (λ (n : ℕ). k < n) ended.count (inside closed c k at)) in
    (ended.each k l.0 c l.1 at).nodes ∙ (are k l.0 l.1).nodes_are)

-- closed lines are exact sharing lists
pub all_exact : (fits : ℕ → List ℕ → Type 0) (count : ℕ) (closed : List ClosedLine) → AreClosed fits count closed → All IsExactClosed closed
all_exact fits count closed ended = each_all IsExactClosed closed (λ k c at. (ended.each k c at).exact)

-- what is kept, by what was to be kept
pub kept_by : {K : Type 0} (fits : K → ℕ → List ℕ → Type 0) (recording : Recording) (lines : List (FineLine K)) (memory : ClosedMemory) → (recording ≡ Recording.All → AreHistoriesOn fits lines memory) → (recording ≡ Recording.Nothing → memory.receipts.items ≡ []) → AreKeptOn recording fits lines memory
kept_by fits Recording.All lines memory all nothing = all refl
kept_by fits Recording.Nothing lines memory all nothing = nothing refl

pub own_by : {K : Type 0} {g : keeps.Ghosts K} (recording : Recording) (hands : List (Vec (Seat K g))) (memory : ClosedMemory) → (recording ≡ Recording.All → AreOfHands hands memory) → (recording ≡ Recording.Nothing → memory.receipts.items ≡ []) → AreOfHands hands memory
own_by Recording.All hands memory all nothing = all refl
own_by Recording.Nothing hands memory all nothing = λ line lists at. absurd (some-ne-none lists (sym (subst (λ (z : List (Vec (Vec Receipt))). get_elem? z line ≡ some lists) (nothing refl) at)))

-- the history of a line of this number and of so many nodes, opened with zeros under this fact
pub line_history : {K : Type 0} (fits : K → ℕ → List ℕ → Type 0) (nodes : ℕ) (keep : K) (number : ℕ) (l : FineLine K) (c : ClosedLine) (lists : List (List Receipt))
    → IsLine nodes keep number l → l.terms.opening ≡ blank → IsHistoryOn fits l c lists → IsLineHistory (fits keep number) nodes blank c lists
line_history {K} fits nodes keep number l c lists is zeros history =
    subst (λ (o : Line). IsLineHistory (fits keep number) nodes o c lists) zeros
    (subst (λ (n : ℕ). IsLineHistory (fits keep number) n l.terms.opening c lists) is.nodes_are
    (subst (λ (m : ℕ). IsLineHistory (fits keep m) l.terms.nodes l.terms.opening c lists) is.number
    (subst (λ (f : K). IsLineHistory (fits f l.terms.number) l.terms.nodes l.terms.opening c lists) is.fact history)))

-- a memory of one line alone
pub one_history : (fits : ℕ → List ℕ → Type 0) (nodes : ℕ) (closed : ClosedLine) (kept : Vec (Vec Receipt)) (lines : List ClosedLine) (receipts : List (Vec (Vec Receipt))) → lines ≡ closed ∷ [] → receipts ≡ kept ∷ []
    → IsLineHistory (fits 0) nodes blank closed (lists_in kept) → AreHistories fits nodes lines (map lists_in receipts)
one_history fits nodes closed kept lines receipts one lists history =
    subst (λ (z : List ClosedLine × List (Vec (Vec Receipt))). AreHistories fits nodes z.0 (map lists_in z.1)) (λ i. (sym one i, sym lists i)) record { count = refl; each = places }
  where
    places : (k : ℕ) (c : ClosedLine) (l : List (List Receipt)) → get_elem? (closed ∷ []) k ≡ some c → get_elem? (lists_in kept ∷ []) k ≡ some l → IsLineHistory (fits k) nodes blank c l
    places zero c l at told = subst (λ (x : ClosedLine). IsLineHistory (fits 0) nodes blank x l) (some-injective closed c at)
        (subst (λ (x : List (List Receipt)). IsLineHistory (fits 0) nodes blank closed x) (some-injective (lists_in kept) l told) history)
    places (suc k) c l at told = absurd (some-ne-none c (sym at))

-- what stands at a place of a mapped list comes of the element there
pub read_from : {A B : Type 0} (f : A → B) (xs : List A) (k : ℕ) (y : B) → get_elem? (map f xs) k ≡ some y → (x : A) × (get_elem? xs k ≡ some x) × (f x ≡ y)
read_from f [] k y at = absurd (some-ne-none y (sym at))
read_from f (x ∷ xs) zero y at = (x, refl, some-injective (f x) y at)
read_from f (x ∷ xs) (suc k) y at = read_from f xs k y at

-- what lines of so many nodes, opened with zeros, have kept
pub kept_under : {K : Type 0} (fits : K → ℕ → List ℕ → Type 0) (recording : Recording) (nodes : ℕ) (keep : K) (lines : List (FineLine K)) (memory : ClosedMemory)
    → AtEach (IsLine nodes keep) lines → AtEach (λ k l. l.terms.opening ≡ blank) lines → AreClosedOf fits lines memory.lines.items → AreKeptOn recording fits lines memory → AreKept recording (fits keep) nodes memory
kept_under fits Recording.All nodes keep lines memory are zeros ended kept = record {
  count = length-map memory.receipts.items lists_in ∙ kept.count ∙ sym ended.count;
  each = λ k c lists at told.
      let v = read_from lists_in memory.receipts.items k lists told in
      let l = at_place lines k (subst (λ (n : ℕ). k < n) ended.count (inside memory.lines.items c k at)) in
      subst (λ (z : List (List Receipt)). IsLineHistory (fits keep k) nodes blank c z) v.2 (line_history fits nodes keep k l.0 c (lists_in v.0) (are k l.0 l.1) (zeros k l.0 l.1) (kept.each k l.0 c v.0 l.1 at v.1));
}
kept_under fits Recording.Nothing nodes keep lines memory are zeros ended kept = kept

-- the lists of a memory, by what its hands' seats have
pub written_by : {K : Type 0} {g : keeps.Ghosts K} (own : ℕ → ℕ → List Receipt → Type 0) (fits : K → ℕ → List ℕ → Type 0) (recording : Recording) (lines : List (FineLine K)) (hands : List (Vec (Seat K g))) (memory : ClosedMemory)
    → (recording ≡ Recording.All → AtEach (λ node hand. AtEach (λ line s. own node line s.receipts.list) hand.items) hands) → AreKeptOn recording fits lines memory → AreOfHands hands memory → AreWrittenAs own (map lists_in memory.receipts.items)
written_by own fits Recording.All lines hands memory all kept of = λ line ls at node list here.
    let v = read_from lists_in memory.receipts.items line ls at in
    let is = of line v.0 v.1 node list (subst (λ (z : List (List Receipt)). get_elem? z node ≡ some list) (sym v.2) here) in
    subst (own node line) is.4 (all refl node is.0 is.1 line is.2 is.3)
written_by own fits Recording.Nothing lines hands memory all kept of = λ line ls at.
    absurd (some-ne-none ls (sym (subst (λ (z : List (Vec (Vec Receipt))). get_elem? (map lists_in z) line ≡ some ls) kept at)))
