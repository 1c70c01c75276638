-- What no call of a bank changes, no turn over it does.
use Rattle.std.proofs.Common.{◌≡◌, ℕ, true, Option, Some, None, Ok, Err, is_some}
use Rattle.sci_core.specs.declared.pending.Pending.{Pending}
use Rattle.sci_port.specs.declared.calls.Call.{Call}
use Rattle.sci_ops.specs.declared.answers.Turn.{Turn}
use Rattle.sci_cache.specs.declared.calls.OpenCall.{OpenCall}
use Rattle.sci_cache.specs.declared.refusals.NodeRefusal.{NodeRefusal}
use Rattle.sci_cache.specs.Nodes.{NodeState, TurnsBy, line_by}
use Rattle.sci_cache.proofs.Through.{chain_keeps}

pub turn_keeps : {U X : Type 0} (gives : U → ℕ → Call → U → Type 0) (step : U → ℕ → Pending) (f : U → X) → ((u : U) (l : ℕ) (c : Call) (v : U) → gives u l c v → f v ≡ f u)
    → (n : NodeState) (call : Option OpenCall) (u : U) (turn : Turn) (v : U) (m : NodeState) → TurnsBy gives step n call u (Ok turn) v m → f v ≡ f u
turn_keeps gives step f each n None u turn v m h = absurd (let e = h.0 in cc)
turn_keeps gives step f each n (Some c) u turn v m h =
    let line = line_by c.victim c.line in
    chain_keeps gives line f (λ a call b k. each a line call b k) h.calls.calls u v h.calls.chain

-- a call that is open is not refused a turn
pub never_refused : {U : Type 0} (gives : U → ℕ → Call → U → Type 0) (step : U → ℕ → Pending) (n : NodeState) (call : Option OpenCall) (u : U) (refusal : NodeRefusal) (v : U) (m : NodeState)
    → is_some call ≡ true → TurnsBy gives step n call u (Err refusal) v m → ⊥
never_refused gives step n None u refusal v m some h = absurd (let e = some in cc)
never_refused gives step n (Some c) u refusal v m some h = h
