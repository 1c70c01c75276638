-- A node's seats at lines under a lock word, before it works there. For tests.
use Rattle.std.specs.Prelude.{◌≡◌, ℕ, List, length}
use mathlib.Core.Option.{some}
use lib.ListN.{get_elem?}
use Rattle.sci_core.specs.declared.keeps.Keeps as keeps
use Rattle.sci_core.specs.declared.pending.Pending.{Pending}
use Rattle.sci_coarse.specs.declared.line.CoarseLine.{CoarseLine}
use Rattle.sci_coarse.specs.declared.seats.Seat.{Seat}
use Rattle.sci_coarse.specs.Banks.{AreLines}
use Rattle.sci_coarse.specs.Seats.{IsSeatOf}
use Rattle.sci_work.specs.declared.programs.Program.{Program}
use Rattle.sci_work.specs.Programs.{Suits}

-- a seat at this very line, and Idle
pub record IsIdleSeatOf {K : Type 0} {g : keeps.Ghosts K} (l : CoarseLine K) (s : Seat K g) : Type 0 where
  pub of : IsSeatOf l s
  pub idle : s.standing.pending ≡ Pending.Idle

-- one at each line, in order
pub record AreIdleSeats {K : Type 0} {g : keeps.Ghosts K} (lines : List (CoarseLine K)) (seats : List (Seat K g)) : Type 0 where
  pub count : length seats ≡ length lines
  pub each : (k : ℕ) (l : CoarseLine K) (s : Seat K g) → get_elem? lines k ≡ some l → get_elem? seats k ≡ some s → IsIdleSeatOf l s

-- the lines of one memory, seats at them, and a program that suits their fact
pub record IsLockedPart {K : Type 0} {g : keeps.Ghosts K} (fits : K → ℕ → List ℕ → Type 0) (lines : List (CoarseLine K)) (program : Program) (number : ℕ) (seats : List (Seat K g)) : Type 0 where
  pub lines_are : AreLines lines
  pub seats_are : AreIdleSeats lines seats
  pub suits : (l : CoarseLine K) → get_elem? lines 0 ≡ some l → Suits program (fits l.terms.keep) (length lines) number
