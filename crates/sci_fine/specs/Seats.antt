-- What clauses say of a line and its seats. This project's profile.
use Rattle.std.specs.Prelude.{◌≡◌, ◌⊎◌, ℕ, ◌+◌, List, length, map}
use mathlib.Core.Option.{some}
use lib.ListN.{get_elem?}
use Rattle.sci_core.specs.declared.keeps.Keeps as keeps
use Rattle.sci_core.specs.declared.lines.Line.{Line}
use Rattle.sci_core.specs.declared.pending.Pending.{Pending}
use Rattle.sci_port.specs.declared.calls.Call.{Call}
use Rattle.sci_port.specs.Owes.{Owes}
use Rattle.sci_port.specs.Readying.{Readying, Readies, no_receipts}
use Rattle.sci_port.specs.ReceiptList.{ReceivesIfRoom}
use Rattle.sci_fine.specs.Calls.{IsStep}
use Rattle.sci_fine.specs.Views.{HasMadeNone}
use Rattle.sci_fine.specs.declared.line.FineLine.{FineLine}
use Rattle.sci_fine.specs.declared.seats.Seat.{Seat}

-- the seat is one of this very line
abbrev pub IsSeatOf : {K : Type 0} {g : keeps.Ghosts K} → FineLine K → Seat K g → Type 0
IsSeatOf l s = (s.token.table_id ≡ l.table.shared.table_id) × (s.standing.terms ≡ l.terms)

-- the same seat, after steps
abbrev pub IsSameSeat : {K : Type 0} {g : keeps.Ghosts K} → Seat K g → Seat K g → Type 0
IsSameSeat s t = (t.token.table_id ≡ s.token.table_id) × (t.token.id ≡ s.token.id) × (t.standing.node ≡ s.standing.node) × (t.standing.terms ≡ s.standing.terms)

-- the seat at k is that of the node k + from on this line, and Idle
abbrev pub AreIdleFrom : {K : Type 0} {g : keeps.Ghosts K} → FineLine K → ℕ → List (Seat K g) → Type 0
AreIdleFrom {K} {g} l from seats = (k : ℕ) (s : Seat K g) → get_elem? seats k ≡ some s → IsSeatOf l s × (s.standing.node ≡ k + from) × (s.standing.pending ≡ Pending.Idle)

-- the seat made this call, in one step, with what every port owes of it
pub record HasMade {K : Type 0} {g : keeps.Ghosts K} (fits : K → ℕ → List ℕ → Type 0) (s : Seat K g) (call : Call) (t : Seat K g) : Type 0 where
  pub same : IsSameSeat s t
  pub came : IsStep fits s.standing.terms s.token.me.0 call t.token.me.0
  pub owes : Owes s.standing.terms.nodes (fits s.standing.terms.keep s.standing.terms.number) s.standing.node s.standing.pending call t.standing.pending

-- and its receipts have what the call leaves in them, where there is room
abbrev pub HasReceived : {K : Type 0} {g : keeps.Ghosts K} → Seat K g → Call → Seat K g → Type 0
HasReceived s call t = ReceivesIfRoom s.standing.pending call s.receipts t.receipts

-- the seat's receipts were readied, and nothing else
pub record HasReadied {K : Type 0} {g : keeps.Ghosts K} (s : Seat K g) (r : Readying) (t : Seat K g) : Type 0 where
  pub token : t.token ≡ s.token
  pub standing : t.standing ≡ s.standing
  pub receipts : Readies r s.receipts t.receipts

-- what each seat has done, in the order of the seats
abbrev pub logs_of : {K : Type 0} {g : keeps.Ghosts K} → List (Seat K g) → List (List (ℕ × Call))
logs_of {K} {g} seats = map (λ (s : Seat K g). s.token.me.0.log) seats

-- no seat has made a call, and none has receipts
abbrev pub AreNew : {K : Type 0} {g : keeps.Ghosts K} → List (Seat K g) → Type 0
AreNew {K} {g} seats = (k : ℕ) (s : Seat K g) → get_elem? seats k ≡ some s → HasMadeNone s.token.me.0 × (s.receipts ≡ no_receipts)

-- the line has n nodes, this number, this opening, and this fact
pub record HasTerms {K : Type 0} (l : FineLine K) (n m : ℕ) (line : Line) (k : K) : Type 0 where
  pub nodes : l.terms.nodes ≡ n
  pub number : l.terms.number ≡ m
  pub opening : l.terms.opening ≡ line
  pub keep : l.terms.keep ≡ k
