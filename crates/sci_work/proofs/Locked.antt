-- A node's seats at lines under a lock word, and its bank there.
use Rattle.std.proofs.Common.{◌≡◌, ℕ, zero, suc, ◌<◌, ◌≤◌, ⊎_elim, List, [], ◌∷◌, ◌++◌, length, map, get_or, refl, sym, subst, arith, length-append}
use Rattle.std.proofs.lemmas.List.{length-map}
use mathlib.Core.Option.{some}
use lib.ListN.{get_elem?}
use Rattle.atomic_table.proofs.Lists.{at_longer, at_last}
use Rattle.sci_core.specs.declared.keeps.Keeps as keeps
use Rattle.sci_core.specs.declared.pending.Pending.{Pending}
use Rattle.sci_port.proofs.Seated.{at_place}
use Rattle.sci_coarse.specs.declared.line.CoarseLine.{CoarseLine}
use Rattle.sci_coarse.specs.declared.seats.Seat.{Seat}
use Rattle.sci_coarse.specs.Banks.{AreLines, AreSeatsAt, AreSeatsOf, IsLine}
use Rattle.sci_coarse.specs.Seats.{AreIdleFrom}
use Rattle.sci_coarse.proofs.Listed.{inside, at_end}
use Rattle.sci_work.specs.declared.programs.Program.{Program}
use Rattle.sci_work.specs.Hands.{AtEach}
use Rattle.sci_work.specs.Locked.{AreIdleSeats, IsIdleSeatOf, IsLockedPart}
use Rattle.sci_work.specs.Programs.{Suits}

module _ {K : Type 0} {g : keeps.Ghosts K} where
  -- the last of a new line's seats, and the others
  pub last_seat : (l : CoarseLine K) (seats rest : List (Seat K g)) (s : Seat K g) → seats ≡ rest ++ s ∷ [] → AreIdleFrom l 0 seats → IsIdleSeatOf l s
  last_seat l seats rest s is all =
      let h = all (length rest) s (subst (λ (z : List (Seat K g)). get_elem? z (length rest) ≡ some s) (sym is) (at_last rest s (length rest) refl)) in
      record { of = h.0; idle = h.2 }

  pub other_seats : (l : CoarseLine K) (seats rest : List (Seat K g)) (s : Seat K g) → seats ≡ rest ++ s ∷ [] → AreIdleFrom l 0 seats → AreIdleFrom l 0 rest
  other_seats l seats rest s is all k t e = all k t (subst (λ (z : List (Seat K g)). get_elem? z k ≡ some t) (sym is) (at_longer rest (s ∷ []) k t e))

  -- a line more, and a seat at it
  pub seat_more : (lines : List (CoarseLine K)) (seats : List (Seat K g)) (l : CoarseLine K) (s : Seat K g) → AreIdleSeats lines seats → IsIdleSeatOf l s → AreIdleSeats (lines ++ l ∷ []) (seats ++ s ∷ [])
  seat_more lines seats l s was here = record {
    count = let a = length-append lines (l ∷ []) in let b = length-append seats (s ∷ []) in omega (arith, a, b, was.count);
    each = λ k m t el es. ⊎_elim
        (λ (h : get_elem? lines k ≡ some m). ⊎_elim (λ e. was.each k m t h e) (λ e. absurd (let low = inside lines m k h in let at = e.0 in let n = was.count in omega (arith, low, at, n))) (at_end seats s t k es))
        (λ h. ⊎_elim (λ (e : get_elem? seats k ≡ some t). absurd (let low = inside seats t k e in let at = h.0 in let n = was.count in omega (arith, low, at, n)))
        (λ e. subst (λ (x : CoarseLine K). IsIdleSeatOf x t) h.1 (subst (λ (x : Seat K g). IsIdleSeatOf l x) e.1 here)) (at_end seats s t k es))
        (at_end lines l m k el);
  }

  pub of_lines : (lines : List (CoarseLine K)) (seats : List (Seat K g)) → AreIdleSeats lines seats → AreSeatsOf lines seats
  of_lines lines seats all k l s el es = (all.each k l s el es).of

  idle_on : (seats : List (Seat K g)) → ((k : ℕ) (s : Seat K g) → get_elem? seats k ≡ some s → s.standing.pending ≡ Pending.Idle) → (line : ℕ) → get_or (map (λ (s : Seat K g). s.standing.pending) seats) line Pending.Idle ≡ Pending.Idle
  idle_on [] idle line = refl
  idle_on (x ∷ xs) idle zero = idle 0 x refl
  idle_on (x ∷ xs) idle (suc k) = idle_on xs (λ j s at. idle (suc j) s at) k

  -- lines of one memory, numbered and under one fact, and a node's seats at them, are its part where the program suits the fact
  pub part_of : (fits : K → ℕ → List ℕ → Type 0) (nodes : ℕ) (keep : K) (program : Program) (number : ℕ) (lines : List (CoarseLine K)) (seats : List (Seat K g))
      → 0 < length lines → length lines ≤ 1024 → AtEach (IsLine nodes keep) lines → AreIdleSeats lines seats → Suits program (fits keep) (length lines) number → IsLockedPart fits lines program number seats
  part_of fits nodes keep program number lines seats some_are few are all suits = record {
    lines_are = record { some_are = some_are; few = few; nodes = nodes; keep = keep; each = are };
    seats_are = all;
    suits = λ l at. subst (λ (k : K). Suits program (fits k) (length lines) number) (sym (are 0 l at).fact) suits;
  }

  -- a bank of these seats at these lines
  module _ (lines : List (CoarseLine K)) (hand : List (Seat K g)) (are : AreLines lines) (all : AreIdleSeats lines hand)
      (ls : List (CoarseLine K)) (seats : List (Seat K g)) (same : ls ≡ lines) (is : seats ≡ hand) (keep : K) (node : ℕ) (of : AreSeatsAt keep node ls seats) where
    -- is Idle on every line
    pub idle_bank : (line : ℕ) → get_or (map (λ (s : Seat K g). s.standing.pending) seats) line Pending.Idle ≡ Pending.Idle
    idle_bank line = subst (λ (z : List (Seat K g)). get_or (map (λ (s : Seat K g). s.standing.pending) z) line Pending.Idle ≡ Pending.Idle) (sym is)
        (idle_on hand (λ k s at. let l = at_place lines k (subst (λ (n : ℕ). k < n) all.count (inside hand s k at)) in (all.each k l.0 s l.1 at).idle) line)

    at_these : AreSeatsAt keep node lines hand
    at_these = subst (λ (z : List (Seat K g)). AreSeatsAt keep node lines z) is (subst (λ (z : List (CoarseLine K)). AreSeatsAt keep node z seats) same of)

    -- and what suits the first line's fact suits its own
    pub bank_suits : (fits : K → ℕ → List ℕ → Type 0) (program : Program) (number : ℕ) → ((l : CoarseLine K) → get_elem? lines 0 ≡ some l → Suits program (fits l.terms.keep) (length lines) number)
        → Suits program (fits keep) (length (map (λ (l : CoarseLine K). l.terms.nodes) ls)) number
    bank_suits fits program number suits =
        let l = at_place lines 0 are.some_are in let s = at_place hand 0 (subst (λ (n : ℕ). 0 < n) (sym all.count) are.some_are) in
        subst (λ (z : List (CoarseLine K)). Suits program (fits keep) (length (map (λ (x : CoarseLine K). x.terms.nodes) z)) number) (sym same)
        (subst (λ (n : ℕ). Suits program (fits keep) n number) (sym (length-map lines (λ (x : CoarseLine K). x.terms.nodes)))
        (subst (λ (k : K). Suits program (fits k) (length lines) number) (at_these.each 0 l.0 s.0 l.1 s.1).fact (suits l.0 l.1)))
