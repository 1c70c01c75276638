-- What a request's turns, one after another, keep of receipts. This project's profile.
use Rattle.std.specs.Prelude.{◌≡◌, ◌≢◌, ℕ, Option, Some, None, Ok}
use Rattle.sci_core.specs.declared.pending.Pending.{Pending}
use Rattle.sci_port.specs.declared.calls.Call.{Call}
use Rattle.sci_port.specs.Readying.{Readying}
use Rattle.sci_port.specs.ReceiptList.{ReceiptList}
use Rattle.sci_ops.specs.declared.answers.Answer.{Answer}
use Rattle.sci_ops.specs.declared.answers.Turn.{Turn}
use Rattle.sci_cache.specs.declared.calls.OpenCall.{OpenCall}
use Rattle.sci_cache.specs.declared.requests.Request.{Request}
use Rattle.sci_cache.specs.Called.{IsProvidedFor, KeepsRequest, KeepsTurnOf}
use Rattle.sci_cache.specs.Nodes.{GoesOn, NodeState, line_by, node_with}

module _ {U : Type 0} (gives : U → ℕ → Call → U → Type 0) (step : U → ℕ → Pending) (receipts : U → ℕ → ReceiptList) where
  -- a turn of an open call, as `kept`, `others` and `other_receipts` of `Node::turn` tell
  pub record TurnKeeps (n : NodeState) (c : OpenCall) (u : U) (shown : Turn) (v : U) (m : NodeState) : Type 0 where
    pub kept : KeepsTurnOf gives step receipts n c u shown v m
    pub steps : (l : ℕ) → l ≢ line_by c.victim c.line → step v l ≡ step u l
    pub other_receipts : (l : ℕ) → l ≢ line_by c.victim c.line → receipts v l ≡ receipts u l

  abbrev pub TurnKeepsBy : NodeState → Option OpenCall → U → Turn → U → NodeState → Type 0
  TurnKeepsBy n None u shown v m = ⊥
  TurnKeepsBy n (Some c) u shown v m = TurnKeeps n c u shown v m

  -- turns that go on, one after another
  pub data TurnsKeep : NodeState → U → NodeState → U → Type 0 where
    none_yet : {n : NodeState} {u : U} → TurnsKeep n u n u
    one_more : {n k m : NodeState} {u w v : U} → (turn : Turn) → TurnsKeep n u k w → GoesOn turn → TurnKeepsBy k k.call w turn v m → TurnsKeep n u m v

-- a request that was begun with what it needs, taken on by any number of turns that go on and then by one that ends it, has kept all:
-- from the bank behind `begin` on
abbrev pub RequestsAreKept : {U : Type 0} → (U → ℕ → Call → U → Type 0) → (U → ℕ → Readying → U → Type 0) → (U → ℕ → Pending) → (U → ℕ → ReceiptList) → Type 0
RequestsAreKept {U} gives readies step receipts = (n : NodeState) (request : Request) (u : U) (before : NodeState) (at : U) (answer : Answer) (v : U) (m : NodeState) → IsProvidedFor (node_with n request).call (step u) (receipts u)
    → TurnsKeep gives step receipts (node_with n request) u before at → TurnKeepsBy gives step receipts before before.call at (Turn.Done answer) v m → KeepsRequest gives readies receipts request u (Ok answer) v
