-- A node's ways to the lines of a bank, and what stays the same of them.
use Rattle.std.specs.Prelude.{◌≡◌, ◌≢◌, ℕ, ◌<◌, ◌≤◌, List, length, slice_index_or}
use Rattle.std.specs.Borrow.{GName}
use Rattle.sci_core.specs.declared.pending.Pending.{Pending}
use Rattle.sci_core.specs.State.{State, blank}
use Rattle.sci_core.specs.Whole.{WholeLine, nodes_of, state_of, opened_whole}
use Rattle.sci_port.specs.declared.calls.Call.{Call}
use Rattle.sci_port.specs.Owes.{Owes}
use Rattle.sci_port.specs.Solo.{Gives}
use Rattle.sci_port.specs.Way.{Way}

-- whose bank of how many lines it is, numbered from 0
pub record BankWay : Type 0 where
  pub node : ℕ
  pub lines : ℕ

-- the way to one line of so many nodes, by a reference to the bank
abbrev pub way_at : GName → BankWay → ℕ → ℕ → Way
way_at reference w nodes line = record { node = w.node; nodes = nodes; number = line; reference = reference }

-- lines that are lent to a node
pub record LentLines (K : Type 0) : Type 0 where
  pub keep : K
  pub node : ℕ
  pub wholes : List (WholeLine K)

module _ {K : Type 0} where
  abbrev pub lent_lines : K → ℕ → List (WholeLine K) → LentLines K
  lent_lines keep node wholes = record { keep = keep; node = node; wholes = wholes }

  abbrev pub lent_way : LentLines K → BankWay
  lent_way s = record { node = s.node; lines = length s.wholes }

  -- the line of this number
  abbrev pub whole_at : LentLines K → ℕ → WholeLine K
  whole_at s line = slice_index_or s.wholes line (opened_whole s.keep 0 0 blank)

  abbrev pub nodes_at : LentLines K → ℕ → ℕ
  nodes_at s line = nodes_of (whole_at s line)

  abbrev pub state_at : LentLines K → ℕ → State
  state_at s line = state_of (whole_at s line)

  abbrev pub step_at : LentLines K → ℕ → Pending
  step_at s line = (state_at s line).steps s.node

  -- the line stands at its number, under the one fact, and has the node
  pub record IsLineOf (keep : K) (node : ℕ) (line : ℕ) (w : WholeLine K) : Type 0 where
    pub number : w.number ≡ line
    pub fact : w.keep ≡ keep
    pub below : node < nodes_of w

  -- 1 to 1,024 lines, numbered from 0, each under the one fact, and each with the node
  pub record AreLinesOf (keep : K) (node : ℕ) (wholes : List (WholeLine K)) : Type 0 where
    pub some : 0 < length wholes
    pub few : length wholes ≤ 1024
    pub each : (line : ℕ) (d : WholeLine K) → line < length wholes → IsLineOf keep node line (slice_index_or wholes line d)

  -- what stays of lent lines where a call is made on one of them: all but that line
  pub record Stays (s : LentLines K) (line : ℕ) (t : LentLines K) : Type 0 where
    pub way : lent_way t ≡ lent_way s
    pub fact : t.keep ≡ s.keep
    pub nodes : (m : ℕ) → nodes_at t m ≡ nodes_at s m
    pub wholes : (m : ℕ) → m ≢ line → whole_at t m ≡ whole_at s m
    pub steps : (m : ℕ) → m ≢ line → step_at t m ≡ step_at s m

  -- a call on one of the lines: what that line gives to its node alone
  pub record GivesAt (fits : K → ℕ → List ℕ → Type 0) (s : LentLines K) (line : ℕ) (call : Call) (t : LentLines K) : Type 0 where
    pub stays : Stays s line t
    pub gives : Gives (nodes_at s line) (fits s.keep line) (state_at s line) s.node call (state_at t line)
    pub owes : Owes (nodes_at s line) (fits s.keep line) s.node (step_at s line) call (step_at t line)
