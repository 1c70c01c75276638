-- A node's seats at the lines of a memory, one at each: what sci_port says of lines that threads share, of these. This project's
-- profile.
use Rattle.std.specs.Prelude.{ℕ, ◌<◌, List}
use Rattle.std.proofs.Common.{ap, subst, ◌∙◌}
use Rattle.std.specs.Coded.{×_prop}
use base.Stored.{Coded, Coded-set, coded×, coded_ℕ, coded_via}
use Rattle.atomic_table.specs.Seated.{table_id_coded}
use Rattle.sci_core.specs.declared.keeps.Keeps as keeps
use Rattle.sci_port.specs.Seated.{Seated}
use Rattle.sci_port.specs.SeatBanks as shared
use Rattle.sci_port.specs.SeatBanks.{IsKept, IsShared, LineTerms, Seating, content_coded}
use Rattle.sci_fine.specs.declared.line.FineLine.{FineLine}
use Rattle.sci_fine.specs.declared.seats.Seat.{Seat}
use Rattle.sci_fine.specs.declared.views.Terms.{Terms}
use Rattle.sci_fine.specs.Seats.{IsSeatOf, HasMade, HasReadied, HasReceived}

abbrev pub terms_of : {K : Type 0} → Terms K → LineTerms K
terms_of t = record { nodes = t.nodes; number = t.number; keep = t.keep }

abbrev pub seating_of : {K : Type 0} {g : keeps.Ghosts K} → Seat K g → Seating K
seating_of s = record { terms = terms_of s.standing.terms; node = s.standing.node; pending = s.standing.pending; receipts = s.receipts }

-- one seat per node of the line, in order, with the line's number
abbrev pub IsOnePerNode : {K : Type 0} {g : keeps.Ghosts K} → FineLine K → List (Seat K g) → Type 0
IsOnePerNode {K} {g} l seats = shared.IsOnePerNode (λ (l : FineLine K). terms_of l.terms) (λ (s : Seat K g). seating_of s) l seats

-- 9 where they are not, else 7
abbrev pub IsRightRefusal : {K : Type 0} {g : keeps.Ghosts K} → FineLine K → List (Seat K g) → ℕ → Type 0
IsRightRefusal {K} {g} l seats refusal = shared.IsRightRefusal (λ (l : FineLine K). terms_of l.terms) (λ (s : Seat K g). seating_of s) l seats refusal

-- the line numbered k, of so many nodes and under this fact
abbrev pub IsLine : {K : Type 0} → ℕ → K → ℕ → FineLine K → Type 0
IsLine nodes keep k l = shared.IsLine nodes keep k (terms_of l.terms)

-- lines of one memory: 1 to 1,024, numbered from 0, of one number of nodes and under one fact
abbrev pub AreLines : {K : Type 0} → List (FineLine K) → Type 0
AreLines {K} lines = shared.AreLines (λ (l : FineLine K). terms_of l.terms) lines

-- one seat per line, in the order of the lines, and of one node
abbrev pub IsOnePerLine : {K : Type 0} {g : keeps.Ghosts K} → List (FineLine K) → List (Seat K g) → Type 0
IsOnePerLine {K} {g} lines seats = shared.IsOnePerLine (λ (s : Seat K g). seating_of s) lines seats

-- the seat at each place is one of the very line there
abbrev pub AreSeatsOf : {K : Type 0} {g : keeps.Ghosts K} → List (FineLine K) → List (Seat K g) → Type 0
AreSeatsOf {K} {g} lines seats = shared.AreSeatsOf (λ (l : FineLine K) (s : Seat K g). IsSeatOf l s) lines seats

-- the node's seats at lines of a memory, one at each
abbrev pub AreSeatsAt : {K : Type 0} {g : keeps.Ghosts K} → K → ℕ → List (FineLine K) → List (Seat K g) → Type 0
AreSeatsAt {K} {g} keep node lines seats = shared.AreSeatsAt (λ (l : FineLine K). terms_of l.terms) (λ (s : Seat K g). seating_of s) (λ (l : FineLine K) (s : Seat K g). IsSeatOf l s) keep node lines seats

-- how they stand: how many nodes each line has, and the node's pending step on each
abbrev pub seated : {K : Type 0} {g : keeps.Ghosts K} → K → ℕ → List (FineLine K) → List (Seat K g) → Seated K
seated {K} {g} keep node lines seats = shared.seated (λ (l : FineLine K). terms_of l.terms) (λ (s : Seat K g). seating_of s) keep node lines seats

-- a line's terms, as a ghost value is kept
abbrev terms_coded : {K : Type 0} → Coded K → Coded (Terms K)
terms_coded {K} c = coded_via (coded× coded_ℕ (coded× coded_ℕ (coded× content_coded c))) (λ (t : Terms K). (t.nodes, (t.number, (t.opening, t.keep))))
    (λ x y e i. record { nodes = (e i).0; number = (e i).1.0; opening = (e i).1.1.0; keep = (e i).1.1.1 })

-- that a seat is one of a line has one proof at most
pub seat_of_prop : {K : Type 0} {g : keeps.Ghosts K} → Coded K → (l : FineLine K) (s : Seat K g) → IsProp (IsSeatOf l s)
seat_of_prop c l s = ×_prop (Coded-set table_id_coded s.token.table_id l.table.shared.table_id) (Coded-set (terms_coded c) s.standing.terms l.terms)

-- what every line that threads share owes of its seats
pub laws_of_seats : {K : Type 0} {g : keeps.Ghosts K} (fits : K → ℕ → List ℕ → Type 0)
    → IsShared fits (λ (l : FineLine K). terms_of l.terms) (λ (s : Seat K g). seating_of s) (λ (l : FineLine K) (s : Seat K g). IsSeatOf l s) (λ s call t. HasMade fits s call t × HasReceived s call t)
laws_of_seats {K} {g} fits = record {
  same_terms = λ l s of. ap (λ (t : Terms K). terms_of t) of.1;
  below = λ l s of. subst (λ (n : ℕ). s.standing.node < n) (ap (λ (t : Terms K). t.nodes) of.1) s.below;
  stays = λ l s call t of made. (made.0.same.0 ∙ of.0, made.0.same.3 ∙ of.1);
  same_node = λ s call t made. made.0.same.2;
  owes = λ s call t made. made.0.owes;
}

-- and of their receipts
pub kept_of_seats : {K : Type 0} {g : keeps.Ghosts K} (fits : K → ℕ → List ℕ → Type 0)
    → IsKept (λ (s : Seat K g). seating_of s) (λ (l : FineLine K) (s : Seat K g). IsSeatOf l s) (λ s call t. HasMade fits s call t × HasReceived s call t) (λ s r t. HasReadied s r t)
kept_of_seats {K} {g} fits = record {
  receives = λ s call t made. made.1;
  stays = λ l s r t of made. (ap (λ z. z.table_id) made.token ∙ of.0, ap (λ z. z.terms) made.standing ∙ of.1);
  same_terms = λ s r t made. ap (λ z. terms_of z.terms) made.standing;
  same_node = λ s r t made. ap (λ z. z.node) made.standing;
  same_step = λ s r t made. ap (λ z. z.pending) made.standing;
  leaves = λ s r t made. made.receipts;
}
