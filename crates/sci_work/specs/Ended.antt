-- What a line holds once it is closed. This project's profile.
use Rattle.std.specs.Prelude.{◌≡◌, ℕ, ◌<◌, ◌≤◌, List, [], ◌∷◌, length, map, All, slice_index}
use Rattle.std.specs.Global.{Vec}
use mathlib.Core.Option.{some}
use lib.ListN.{get_elem?}
use Rattle.sci_core.specs.State.{State, blank, opened}
use Rattle.sci_core.specs.declared.keeps.Keeps as keeps
use Rattle.sci_core.specs.declared.lines.Line.{Line}
use Rattle.sci_core.specs.declared.pending.Pending.{Pending}
use Rattle.sci_core.specs.declared.receipts.Receipt.{Receipt}
use Rattle.sci_port.specs.declared.calls.Call.{Call}
use Rattle.sci_port.specs.ReceiptList.{AreReceiptsOf, ReceiptList}
use Rattle.sci_port.specs.Receipts.{IsWhole}
use Rattle.sci_port.specs.Runs.{Leads, done_by}
use Rattle.sci_port.specs.Solo.{Gives}
use Rattle.sci_fine.specs.declared.line.FineLine.{FineLine}
use Rattle.sci_fine.specs.declared.seats.Seat.{Seat}
use Rattle.sci_fine.specs.Ends.{IsReadOff}
use Rattle.sci_fine.specs.Kept.{list_at}
use Rattle.sci_core.specs.Closed.{ClosedLine, IsExactClosed, value_of}
use Rattle.sci_work.specs.declared.recording.ClosedMemory.{ClosedMemory}
use Rattle.sci_work.specs.declared.recording.Recording.{Recording}
use Rattle.sci_work.specs.Hands.{AtEach, IsListOf}

-- each closed line has so many nodes
abbrev pub HaveNodes : ℕ → List ClosedLine → Type 0
HaveNodes nodes closed = All (λ c. length c.tags ≡ nodes) closed

-- one line was closed, an exact sharing list, and the word is the first of its value
abbrev pub IsCounted : ℕ → List ClosedLine → Type 0
IsCounted word lines = (c : ClosedLine) × (lines ≡ c ∷ []) × IsExactClosed c × (word ≡ slice_index (value_of c).words 0)

-- the numbers of a count are within the limits
abbrev pub IsCountSize : ℕ → ℕ → ℕ → Type 0
IsCountSize nodes adds capacity = (1 ≤ nodes) × (nodes ≤ 64) × (adds ≤ 1000000) × (1 ≤ capacity) × (capacity ≤ 1024)

-- the line was closed as an exact sharing list of its nodes, and what it holds fits what is known of it
pub record IsClosedOf {K : Type 0} (fits : K → ℕ → List ℕ → Type 0) (l : FineLine K) (c : ClosedLine) : Type 0 where
  pub exact : IsExactClosed c
  pub nodes : length c.tags ≡ l.terms.nodes
  pub fit : fits l.terms.keep l.terms.number (value_of c).words

-- of a count's line nothing is known
abbrev pub any_words : List ℕ → Type 0
any_words words = Unit {0}

-- the receipts of each node on a line
abbrev pub lists_in : Vec (Vec Receipt) → List (List Receipt)
lists_in lists = map (λ (v : Vec Receipt). v.items) lists.items

-- these receipts are of one run of a line, from its opening to what it was closed with: at each node's place are those of the node's own
-- calls in it
pub record AreOfOneRun (fits : List ℕ → Type 0) (nodes : ℕ) (opening : Line) (c : ClosedLine) (lists : List (List Receipt)) : Type 0 where
  pub run : List (ℕ × Call)
  pub state : State
  pub led : Leads (Gives nodes fits) (opened nodes opening) run state
  pub idle : (i : ℕ) → state.steps i ≡ Pending.Idle
  pub read : IsReadOff nodes state c
  pub own : (j : ℕ) → j < nodes → (s : ReceiptList) × (s.list ≡ list_at lists j) × AreReceiptsOf (done_by j run) Pending.Idle s

-- these receipts of so many nodes are one history of a line, whole, from its opening to what it was closed with, and each list its node's own
pub record IsLineHistory (fits : List ℕ → Type 0) (nodes : ℕ) (opening : Line) (c : ClosedLine) (lists : List (List Receipt)) : Type 0 where
  pub count : length lists ≡ nodes
  pub whole : IsWhole nodes opening (value_of c) (λ j. list_at lists j)
  pub run : AreOfOneRun fits nodes opening c lists

-- the receipts at each place are such a history of the line there, which was opened with zeros
pub record AreHistories (fits : ℕ → List ℕ → Type 0) (nodes : ℕ) (closed : List ClosedLine) (lists : List (List (List Receipt))) : Type 0 where
  pub count : length lists ≡ length closed
  pub each : (k : ℕ) (c : ClosedLine) (l : List (List Receipt)) → get_elem? closed k ≡ some c → get_elem? lists k ≡ some l
      → IsLineHistory (fits k) nodes blank c l

-- where all is kept, the receipts are the lines' histories; and there are none where nothing is
abbrev pub AreKept : Recording → (ℕ → List ℕ → Type 0) → ℕ → ClosedMemory → Type 0
AreKept Recording.All fits nodes memory = AreHistories fits nodes memory.lines.items (map lists_in memory.receipts.items)
AreKept Recording.Nothing fits nodes memory = memory.receipts.items ≡ []

-- such a history of this very line
abbrev pub IsHistoryOn : {K : Type 0} → (K → ℕ → List ℕ → Type 0) → FineLine K → ClosedLine → List (List Receipt) → Type 0
IsHistoryOn fits l c lists = IsLineHistory (fits l.terms.keep l.terms.number) l.terms.nodes l.terms.opening c lists

-- the receipts at each place are one of the line there
pub record AreHistoriesOn {K : Type 0} (fits : K → ℕ → List ℕ → Type 0) (lines : List (FineLine K)) (memory : ClosedMemory) : Type 0 where
  pub count : length memory.receipts.items ≡ length lines
  pub each : (k : ℕ) (l : FineLine K) (c : ClosedLine) (lists : Vec (Vec Receipt)) → get_elem? lines k ≡ some l → get_elem? memory.lines.items k ≡ some c
      → get_elem? memory.receipts.items k ≡ some lists → IsHistoryOn fits l c (lists_in lists)

-- the receipts at each place are those of the hands' seats there
abbrev pub AreOfHands : {K : Type 0} {g : keeps.Ghosts K} → List (Vec (Seat K g)) → ClosedMemory → Type 0
AreOfHands {K} {g} hands memory = AtEach (λ line lists. AtEach (λ node list. IsListOf hands node line list) (lists_in lists)) memory.receipts.items

abbrev pub AreKeptOn : {K : Type 0} → Recording → (K → ℕ → List ℕ → Type 0) → List (FineLine K) → ClosedMemory → Type 0
AreKeptOn Recording.All fits lines memory = AreHistoriesOn fits lines memory
AreKeptOn Recording.Nothing fits lines memory = memory.receipts.items ≡ []

-- each line was closed so
pub record AreClosedOf {K : Type 0} (fits : K → ℕ → List ℕ → Type 0) (lines : List (FineLine K)) (closed : List ClosedLine) : Type 0 where
  pub count : length closed ≡ length lines
  pub each : (k : ℕ) (l : FineLine K) (c : ClosedLine) → get_elem? lines k ≡ some l → get_elem? closed k ≡ some c → IsClosedOf fits l c

-- line k was closed as an exact sharing list, and what it holds fits this fact
pub record IsClosedAt (fits : ℕ → List ℕ → Type 0) (k : ℕ) (c : ClosedLine) : Type 0 where
  pub exact : IsExactClosed c
  pub fit : fits k (value_of c).words

-- so many lines were closed so, in order
pub record AreClosed (fits : ℕ → List ℕ → Type 0) (count : ℕ) (closed : List ClosedLine) : Type 0 where
  pub count_is : length closed ≡ count
  pub each : (k : ℕ) (c : ClosedLine) → get_elem? closed k ≡ some c → IsClosedAt fits k c
