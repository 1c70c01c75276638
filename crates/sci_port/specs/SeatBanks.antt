-- A node's seats at the lines of a memory, one at each, whatever the lines are. L is a line, S a seat at one. This project's profile.
use Rattle.std.specs.Prelude.{◌≡◌, ◌⊎◌, ℕ, ◌<◌, ◌≤◌, List, length, map, slice_set}
use mathlib.Core.Option.{some}
use lib.ListN.{get_elem?}
use base.Stored.{Coded, coded×, coded_ℕ, coded_list, coded_via}
use Rattle.sci_core.specs.declared.lines.Line.{Line}
use Rattle.sci_core.specs.declared.pending.Pending.{Pending}
use Rattle.sci_port.specs.declared.calls.Call.{Call}
use Rattle.sci_port.specs.Owes.{Owes}
use Rattle.sci_port.specs.Readying.{Readying, Readies}
use Rattle.sci_port.specs.ReceiptList.{ReceiptList, ReceivesIfRoom}
use Rattle.sci_port.specs.Seated.{Seated}

-- what is fixed of a line: how many nodes it has, its number, and the fact that its words have
pub record LineTerms (K : Type 0) : Type 0 where
  pub nodes : ℕ
  pub number : ℕ
  pub keep : K

-- a seat: the terms of its line, its node, the node's pending step there, and its receipts
pub record Seating (K : Type 0) : Type 0 where
  pub terms : LineTerms K
  pub node : ℕ
  pub pending : Pending
  pub receipts : ReceiptList

-- what holds of a line's seats and their calls: a seat of the line is on its terms and of one of its nodes, and a call leaves it a
-- seat of the line, and its node's, and is as every port owes
pub record IsShared {K L S : Type 0} (fits : K → ℕ → List ℕ → Type 0) (terms : L → LineTerms K) (seating : S → Seating K) (is_seat : L → S → Type 0) (makes : S → Call → S → Type 0) : Type 0 where
  pub same_terms : (l : L) (s : S) → is_seat l s → (seating s).terms ≡ terms l
  pub below : (l : L) (s : S) → is_seat l s → (seating s).node < (terms l).nodes
  pub stays : (l : L) (s : S) (call : Call) (t : S) → is_seat l s → makes s call t → is_seat l t
  pub same_node : (s : S) (call : Call) (t : S) → makes s call t → (seating t).node ≡ (seating s).node
  pub owes : (s : S) (call : Call) (t : S) → makes s call t → Owes (seating s).terms.nodes (fits (seating s).terms.keep (seating s).terms.number) (seating s).node (seating s).pending call (seating t).pending

-- what holds of their receipts: a call leaves in them what it is to leave where there is room for it, and else all as it was; one
-- that readies them leaves the seat one of its line's, on its terms, its node's and at its step
pub record IsKept {K L S : Type 0} (seating : S → Seating K) (is_seat : L → S → Type 0) (makes : S → Call → S → Type 0) (readies : S → Readying → S → Type 0) : Type 0 where
  pub receives : (s : S) (call : Call) (t : S) → makes s call t → ReceivesIfRoom (seating s).pending call (seating s).receipts (seating t).receipts
  pub stays : (l : L) (s : S) (r : Readying) (t : S) → is_seat l s → readies s r t → is_seat l t
  pub same_terms : (s : S) (r : Readying) (t : S) → readies s r t → (seating t).terms ≡ (seating s).terms
  pub same_node : (s : S) (r : Readying) (t : S) → readies s r t → (seating t).node ≡ (seating s).node
  pub same_step : (s : S) (r : Readying) (t : S) → readies s r t → (seating t).pending ≡ (seating s).pending
  pub leaves : (s : S) (r : Readying) (t : S) → readies s r t → Readies r (seating s).receipts (seating t).receipts

-- the line numbered k, of so many nodes and under this fact
pub record IsLine {K : Type 0} (nodes : ℕ) (keep : K) (k : ℕ) (t : LineTerms K) : Type 0 where
  pub number : t.number ≡ k
  pub nodes_are : t.nodes ≡ nodes
  pub fact : t.keep ≡ keep

-- lines of one memory: 1 to 1,024, numbered from 0, of one number of nodes and under one fact
pub record AreLines {K L : Type 0} (terms : L → LineTerms K) (lines : List L) : Type 0 where
  pub some_are : 0 < length lines
  pub few : length lines ≤ 1024
  pub nodes : ℕ
  pub keep : K
  pub each : (k : ℕ) (l : L) → get_elem? lines k ≡ some l → IsLine nodes keep k (terms l)

-- the seat is the node's, at a line of this number
abbrev pub SitsOn : {K : Type 0} → ℕ → ℕ → Seating K → Type 0
SitsOn node number s = (s.node ≡ node) × (s.terms.number ≡ number)

-- one seat per node of the line, in order, with the line's number
abbrev pub IsOnePerNode : {K L S : Type 0} → (L → LineTerms K) → (S → Seating K) → L → List S → Type 0
IsOnePerNode {K} {L} {S} terms seating l seats = (length seats ≡ (terms l).nodes) × ((k : ℕ) (s : S) → get_elem? seats k ≡ some s → SitsOn k (terms l).number (seating s))

-- 9 where they are not, else 7
abbrev pub IsRightRefusal : {K L S : Type 0} → (L → LineTerms K) → (S → Seating K) → L → List S → ℕ → Type 0
IsRightRefusal terms seating l seats refusal = ((refusal ≡ 9) × (IsOnePerNode terms seating l seats → ⊥)) ⊎ ((refusal ≡ 7) × IsOnePerNode terms seating l seats)

-- one seat per line, in the order of the lines, and of one node
pub record IsOnePerLine {K L S : Type 0} (seating : S → Seating K) (lines : List L) (seats : List S) : Type 0 where
  pub count : length seats ≡ length lines
  pub node : ℕ
  pub each : (k : ℕ) (s : S) → get_elem? seats k ≡ some s → SitsOn node k (seating s)

-- the seat at each place is one of the very line there
abbrev pub AreSeatsOf : {L S : Type 0} → (L → S → Type 0) → List L → List S → Type 0
AreSeatsOf {L} {S} is_seat lines seats = (k : ℕ) (l : L) (s : S) → get_elem? lines k ≡ some l → get_elem? seats k ≡ some s → is_seat l s

-- the line numbered k, and the node's seat at it
pub record IsSeatAt {K L S : Type 0} (terms : L → LineTerms K) (seating : S → Seating K) (is_seat : L → S → Type 0) (keep : K) (node k : ℕ) (l : L) (s : S) : Type 0 where
  pub of : is_seat l s
  pub number : (terms l).number ≡ k
  pub fact : (terms l).keep ≡ keep
  pub node_is : (seating s).node ≡ node

-- the node's seats at lines of a memory, one at each
pub record AreSeatsAt {K L S : Type 0} (terms : L → LineTerms K) (seating : S → Seating K) (is_seat : L → S → Type 0) (keep : K) (node : ℕ) (lines : List L) (seats : List S) : Type 0 where
  pub some_are : 0 < length lines
  pub few : length lines ≤ 1024
  pub count : length seats ≡ length lines
  pub each : (k : ℕ) (l : L) (s : S) → get_elem? lines k ≡ some l → get_elem? seats k ≡ some s → IsSeatAt terms seating is_seat keep node k l s

-- how they stand: how many nodes each line has, and the node's pending step on each
abbrev pub seated : {K L S : Type 0} → (L → LineTerms K) → (S → Seating K) → K → ℕ → List L → List S → Seated K
seated {K} {L} {S} terms seating keep node lines seats = record { keep = keep; node = node; nodes = map (λ (l : L). (terms l).nodes) lines; steps = map (λ (s : S). (seating s).pending) seats }

-- the seat at the line's place made the call, and every other seat is as it was
pub record MakesCall {S : Type 0} (makes : S → Call → S → Type 0) (before : List S) (line : ℕ) (call : Call) (after : List S) : Type 0 where
  pub seat : S
  pub later : S
  pub at : get_elem? before line ≡ some seat
  pub made : makes seat call later
  pub seats : after ≡ slice_set before line later

-- the receipts of each seat
abbrev pub receipts_of : {K S : Type 0} → (S → Seating K) → List S → List ReceiptList
receipts_of {K} {S} seating seats = map (λ (s : S). (seating s).receipts) seats

-- the receipts of the seat at the line's place were readied, and every other seat is as it was
pub record MakesReady {S : Type 0} (readies : S → Readying → S → Type 0) (before : List S) (line : ℕ) (r : Readying) (after : List S) : Type 0 where
  pub seat : S
  pub later : S
  pub at : get_elem? before line ≡ some seat
  pub made : readies seat r later
  pub seats : after ≡ slice_set before line later

-- a line's content, as a ghost value is kept
abbrev pub content_coded : Coded Line
content_coded = coded_via (coded× (coded_list coded_ℕ) coded_ℕ) (λ (l : Line). (l.words, l.stamp)) (λ x y e i. record { words = (e i).0; stamp = (e i).1 })
