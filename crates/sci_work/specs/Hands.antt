-- A node's seats at the lines of a workload, between two of its calls. This project's profile.
use Rattle.std.specs.Prelude.{◌≡◌, ℕ, List, [], ◌∷◌, length, map}
use Rattle.std.specs.Global.{Vec}
use mathlib.Core.Option.{some}
use lib.ListN.{get_elem?}
use Rattle.sci_core.specs.declared.keeps.Keeps as keeps
use Rattle.sci_core.specs.declared.pending.Pending.{Pending}
use Rattle.sci_core.specs.declared.receipts.Receipt.{Receipt}
use Rattle.sci_port.specs.KeepsAll.{writes_in}
use Rattle.sci_fine.specs.declared.line.FineLine.{FineLine}
use Rattle.sci_fine.specs.declared.seats.Seat.{Seat}
use Rattle.sci_fine.specs.Kept.{HasKeptAll}
use Rattle.sci_fine.specs.Seats.{IsSeatOf}
use Rattle.sci_work.specs.declared.recording.Recording.{Recording}

-- P holds of each place and the element there
abbrev pub AtEach : {A : Type 0} → (ℕ → A → Type 0) → List A → Type 0
AtEach {A} P xs = (k : ℕ) (x : A) → get_elem? xs k ≡ some x → P k x

-- the node's seat at this very line, Idle, and with the receipts of all that it did, where that is kept
pub record IsIdleSeat {K : Type 0} {g : keeps.Ghosts K} (recording : Recording) (node : ℕ) (l : FineLine K) (s : Seat K g) : Type 0 where
  pub of : IsSeatOf l s
  pub node_is : s.standing.node ≡ node
  pub idle : s.standing.pending ≡ Pending.Idle
  pub kept : recording ≡ Recording.All → HasKeptAll s

-- the node's seats, one at each line, in order, and all Idle
pub record IsHandOf {K : Type 0} {g : keeps.Ghosts K} (recording : Recording) (lines : List (FineLine K)) (node : ℕ) (seats : List (Seat K g)) : Type 0 where
  pub count : length seats ≡ length lines
  pub each : (k : ℕ) (l : FineLine K) (s : Seat K g) → get_elem? lines k ≡ some l → get_elem? seats k ≡ some s → IsIdleSeat recording node l s

-- none of the seats has written
abbrev pub HasWrittenNothing : {K : Type 0} {g : keeps.Ghosts K} → List (Seat K g) → Type 0
HasWrittenNothing {K} {g} seats = AtEach (λ k s. writes_in s.receipts.list ≡ []) seats

-- a node's seats at lines that were just opened
abbrev pub IsNewHand : {K : Type 0} {g : keeps.Ghosts K} → List (FineLine K) → ℕ → List (Seat K g) → Type 0
IsNewHand lines node seats = IsHandOf Recording.All lines node seats × HasWrittenNothing seats

abbrev pub IsNewSeat : {K : Type 0} {g : keeps.Ghosts K} → ℕ → FineLine K → Seat K g → Type 0
IsNewSeat node l s = IsIdleSeat Recording.All node l s × (writes_in s.receipts.list ≡ [])

-- each seat is one of this very line, Idle, and with the receipts of all that it did, where that is kept
abbrev pub AreIdle : {K : Type 0} {g : keeps.Ghosts K} → Recording → FineLine K → List (Seat K g) → Type 0
AreIdle {K} {g} recording l seats = (k : ℕ) (s : Seat K g) → get_elem? seats k ≡ some s → IsSeatOf l s × (s.standing.pending ≡ Pending.Idle) × (recording ≡ Recording.All → HasKeptAll s)

-- the list is that of the node's seat at this line
abbrev pub IsListOf : {K : Type 0} {g : keeps.Ghosts K} → List (Vec (Seat K g)) → ℕ → ℕ → List Receipt → Type 0
IsListOf {K} {g} hands node line list = (hand : Vec (Seat K g)) × (get_elem? hands node ≡ some hand) × (s : Seat K g) × (get_elem? hand.items line ≡ some s) × (s.receipts.list ≡ list)

-- a node's hand of fewer seats, each where it stands in the node's hand here
abbrev pub IsFewer : {K : Type 0} {g : keeps.Ghosts K} → List (Vec (Seat K g)) → ℕ → Vec (Seat K g) → Type 0
IsFewer {K} {g} hands node fewer = (hand : Vec (Seat K g)) × (get_elem? hands node ≡ some hand) × ((line : ℕ) (s : Seat K g) → get_elem? fewer.items line ≡ some s → get_elem? hand.items line ≡ some s)

-- the seat stands at this line in its node's hand here
abbrev pub IsSeatIn : {K : Type 0} {g : keeps.Ghosts K} → List (Vec (Seat K g)) → ℕ → ℕ → Seat K g → Type 0
IsSeatIn {K} {g} hands line node s = (hand : Vec (Seat K g)) × (get_elem? hands node ≡ some hand) × (get_elem? hand.items line ≡ some s)

-- the hand at each place holds the seat at that place alone
abbrev pub HoldEach : {K : Type 0} {g : keeps.Ghosts K} → List (Vec (Seat K g)) → List (Seat K g) → Type 0
HoldEach {K} {g} hands seats = map (λ (h : Vec (Seat K g)). h.items) hands ≡ map (λ (s : Seat K g). s ∷ []) seats
