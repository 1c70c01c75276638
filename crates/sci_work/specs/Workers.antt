-- A node at work on a bank, between two of its calls. This project's profile.
use Rattle.std.specs.Prelude.{◌≡◌, ℕ, Bool, true, false, None, List}
use Rattle.sci_core.specs.declared.pending.Pending.{Pending}
use Rattle.sci_port.specs.declared.calls.Call.{Call}
use Rattle.sci_port.specs.Banks.{BankWay}
use Rattle.sci_port.specs.KeepsAll.{KeepsAll}
use Rattle.sci_port.specs.Readying.{Readying}
use Rattle.sci_port.specs.ReceiptList.{ReceiptList}
use Rattle.sci_cache.specs.Nodes.{NodeState}
use Rattle.sci_work.specs.declared.recording.Recording.{Recording}
use Rattle.sci_work.specs.Made.{IsReached}
use Rattle.sci_work.specs.Written.{HasWrote}

-- whether a node keeps receipts
abbrev pub keeps_any : Recording → Bool
keeps_any Recording.All = true
keeps_any Recording.Nothing = false

-- the bank is this node's and has its lines, no call is open, and the node is Idle on every line
pub record IsReady {U : Type 0} (step : U → ℕ → Pending) (way : BankWay) (n : NodeState) (u : U) : Type 0 where
  pub node : way.node ≡ n.id
  pub lines : way.lines ≡ n.lines
  pub free : n.call ≡ None
  pub idle : (line : ℕ) → step u line ≡ Pending.Idle

-- a node's work led the bank u to v: all its calls have ended, and if it keeps receipts, each found room for its own, and these are the
-- writes among them; it is the node's as before, and under the same fact
pub record HasWorked {U K : Type 0} (keeps : Bool) (ws : List (ℕ × List ℕ)) (way : U → BankWay) (keep : U → K) (step : U → ℕ → Pending) (gives : U → ℕ → Call → U → Type 0) (readies : U → ℕ → Readying → U → Type 0) (receipts : U → ℕ → ReceiptList) (u : U) (n : NodeState) (v : U) : Type 0 where
  pub ready : IsReady step (way v) n v
  pub same_keeps : n.keeps ≡ keeps
  pub reached : IsReached gives readies u v
  pub kept : keeps ≡ true → KeepsAll gives readies receipts u v
  pub wrote : keeps ≡ true → HasWrote ws (receipts u) (receipts v)
  pub same_way : way v ≡ way u
  pub same_fact : keep v ≡ keep u
