-- What seats kept of their line, and what `finish` gives of it. Coherence as in Culler and Singh; the rest is this project's profile.
use Rattle.std.specs.Prelude.{◌≡◌, ℕ, List, [], All, map, slice_index_or}
use Rattle.sci_core.specs.declared.keeps.Keeps as keeps
use Rattle.sci_core.specs.declared.pending.Pending.{Pending}
use Rattle.sci_core.specs.declared.receipts.Receipt.{Receipt}
use Rattle.sci_core.specs.Closed.{ClosedLine}
use Rattle.sci_port.specs.declared.calls.Call.{Call}
use Rattle.sci_port.specs.Readying.{Readying, no_receipts}
use Rattle.sci_port.specs.ReceiptList.{AreReceiptsOf, HasRoomFor}
use Rattle.sci_port.specs.Receipts.{IsWhole}
use Rattle.sci_coarse.specs.declared.seats.Seat.{Seat}
use Rattle.sci_coarse.specs.declared.views.Terms.{Terms}
use Rattle.sci_coarse.specs.Ends.{IsEnd}
use Rattle.sci_coarse.specs.Runs.{calls_in}
use Rattle.sci_coarse.specs.Seats.{HasMade, HasReadied, HasReceived}
use Rattle.sci_coarse.specs.Views.{HasMadeNone}

-- the seat has kept all that its calls showed it and wrote: its receipts are those of the calls in its log
abbrev pub HasKeptAll : {K : Type 0} {g : keeps.Ghosts K} → Seat K g → Type 0
HasKeptAll s = AreReceiptsOf (calls_in s.token.me.0.log) s.standing.pending s.receipts

-- a seat that has made no call has
abbrev pub BeginsKept : {K : Type 0} {g : keeps.Ghosts K} → Seat K g → Type 0
BeginsKept s = HasMadeNone s.token.me.0 → s.standing.pending ≡ Pending.Idle → s.receipts ≡ no_receipts → HasKeptAll s

-- one that has, has also after a call for whose receipt there was room
abbrev pub StaysKept : {K : Type 0} {g : keeps.Ghosts K} → (K → ℕ → List ℕ → Type 0) → Seat K g → Type 0
StaysKept {K} {g} fits s = (call : Call) (t : Seat K g) → HasMade fits s call t → HasReceived s call t → HasRoomFor call s.receipts → HasKeptAll s → HasKeptAll t

-- and after its receipts were readied
abbrev pub StaysKeptReadied : {K : Type 0} {g : keeps.Ghosts K} → Seat K g → Type 0
StaysKeptReadied {K} {g} s = (r : Readying) (t : Seat K g) → HasReadied s r t → HasKeptAll s → HasKeptAll t

-- the receipts of each seat, in the order of the seats
abbrev pub lists_of : {K : Type 0} {g : keeps.Ghosts K} → List (Seat K g) → List (List Receipt)
lists_of {K} {g} seats = map (λ (s : Seat K g). s.receipts.list) seats

-- those of the node j
abbrev pub list_at : List (List Receipt) → ℕ → List Receipt
list_at lists j = slice_index_or lists j []

-- what is closed is the end of a run of these seats, and these are their receipts, each node's at its place. Where each seat has kept
-- all, they are one history of the line, whole, from its opening to the value at the end
pub record IsFinished {K : Type 0} {g : keeps.Ghosts K} (fits : K → ℕ → List ℕ → Type 0) (t : Terms K) (seats : List (Seat K g)) (c : ClosedLine) (lists : List (List Receipt)) : Type 0 where
  pub end : IsEnd fits t seats c
  pub own : lists ≡ lists_of seats
  pub whole : All (λ (s : Seat K g). HasKeptAll s) seats → IsWhole t.nodes t.opening end.value (λ j. list_at lists j)
