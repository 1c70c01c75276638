-- The seats of a bank keep all: so does each behind the bank's calls.
use Rattle.std.proofs.Common.{◌≡◌, ℕ, List, inl, inr, set, subst}
use mathlib.Core.Option.{some}
use lib.ListN.{get_elem?}
use Rattle.atomic_table.proofs.Lists.{at_set}
use Rattle.sci_core.specs.declared.keeps.Keeps as keeps
use Rattle.sci_port.specs.declared.calls.Call.{Call}
use Rattle.sci_port.specs.KeepsAll.{KeepsAll, keeps_none, keeps_call, keeps_ready}
use Rattle.sci_port.specs.Readying.{Readying, no_receipts, receipts_at}
use Rattle.sci_port.specs.ReceiptList.{HasRoomFor, ReceiptList}
use Rattle.sci_port.specs.SeatBanks.{MakesCall, MakesReady, receipts_of}
use Rattle.sci_port.proofs.Seated.{read_at}
use Rattle.sci_fine.specs.declared.seats.Seat.{Seat}
use Rattle.sci_fine.specs.Banks.{seating_of}
use Rattle.sci_fine.specs.Kept.{HasKeptAll}
use Rattle.sci_fine.specs.Seats.{HasMade, HasReadied, HasReceived}
use Rattle.sci_fine.proofs.KeptAll.{stays_kept, stays_readied}

module _ {K : Type 0} {g : keeps.Ghosts K} where
  abbrev pub AllKept : List (Seat K g) → Type 0
  AllKept seats = (k : ℕ) (s : Seat K g) → get_elem? seats k ≡ some s → HasKeptAll s

  -- the seat at one place is another, which has kept all
  replaced : (before after : List (Seat K g)) (line : ℕ) (later : Seat K g) → after ≡ set before line later → HasKeptAll later → AllKept before → AllKept after
  replaced before after line later is kept all k s at =
      elim (at_set before line k later s (subst (λ (l : List (Seat K g)). get_elem? l k ≡ some s) is at)) [
        | inl here ↦ subst (λ (x : Seat K g). HasKeptAll x) here.1 kept
        | inr else ↦ all k s else.1
      ]

  module _ (fits : K → ℕ → List ℕ → Type 0) where
    call_keeps : (before after : List (Seat K g)) (line : ℕ) (call : Call) → MakesCall (λ (s : Seat K g) c t. HasMade fits s c t × HasReceived s c t) before line call after
        → HasRoomFor call (receipts_at (receipts_of (λ (s : Seat K g). seating_of s) before) line) → AllKept before → AllKept after
    call_keeps before after line call h room all =
        let here : HasRoomFor call h.seat.receipts = subst (HasRoomFor call) (read_at (λ (s : Seat K g). s.receipts) before line h.seat no_receipts h.at) room in
        replaced before after line h.later h.seats (stays_kept h.seat fits call h.later h.made.0 h.made.1 here (all line h.seat h.at)) all

  ready_keeps : (before after : List (Seat K g)) (line : ℕ) (r : Readying) → MakesReady (λ (s : Seat K g) r t. HasReadied s r t) before line r after → AllKept before → AllKept after
  ready_keeps before after line r h all = replaced before after line h.later h.seats (stays_readied h.seat r h.later h.made (all line h.seat h.at)) all

  -- a bank whose calls are those of its seats
  module _ {U : Type 0} (gives : U → ℕ → Call → U → Type 0) (readies : U → ℕ → Readying → U → Type 0) (receipts : U → ℕ → ReceiptList) (fits : K → ℕ → List ℕ → Type 0) (seats : U → List (Seat K g))
      (makes : (u : U) (line : ℕ) (call : Call) (v : U) → gives u line call v → MakesCall (λ (s : Seat K g) c t. HasMade fits s c t × HasReceived s c t) (seats u) line call (seats v))
      (makes_ready : (u : U) (line : ℕ) (r : Readying) (v : U) → readies u line r v → MakesReady (λ (s : Seat K g) r t. HasReadied s r t) (seats u) line r (seats v))
      (tells : (u : U) (line : ℕ) → receipts u line ≡ receipts_at (receipts_of (λ (s : Seat K g). seating_of s) (seats u)) line) where
    pub bank_keeps : {u v : U} → KeepsAll gives readies receipts u v → AllKept (seats u) → AllKept (seats v)
    bank_keeps keeps_none all = all
    bank_keeps {u = u} (keeps_call {w = w} line call given room rest) all = bank_keeps rest (call_keeps fits (seats u) (seats w) line call (makes u line call w given) (subst (HasRoomFor call) (tells u line) room) all)
    bank_keeps {u = u} (keeps_ready {w = w} line r given rest) all = bank_keeps rest (ready_keeps (seats u) (seats w) line r (makes_ready u line r w given) all)
