-- A node's turn over a bank, as what the bank stands for sees it.
use Rattle.std.proofs.Common.{ℕ, Option, Some, None, Result, Ok, Err, refl, ap}
use Rattle.sci_core.specs.declared.pending.Pending.{Pending}
use Rattle.sci_port.specs.declared.calls.Call.{Call}
use Rattle.sci_ops.specs.declared.answers.Turn.{Turn}
use Rattle.sci_cache.specs.declared.calls.OpenCall.{OpenCall}
use Rattle.sci_cache.specs.declared.refusals.NodeRefusal.{NodeRefusal}
use Rattle.sci_cache.specs.Nodes.{NodeState, TurnsBy, line_by, op_by}
use Rattle.sci_cache.proofs.Through.{turn_through, answer_through}

module _ {U V : Type 0} (gives : U → ℕ → Call → U → Type 0) (given : V → ℕ → Call → V → Type 0) (f : U → V) (step : V → ℕ → Pending)
    (each : (u : U) (l : ℕ) (c : Call) (v : U) → gives u l c v → given (f u) l c (f v)) where
  pub carried : (n : NodeState) (call : Option OpenCall) (u : U) (r : Result Turn NodeRefusal) (v : U) (m : NodeState) → TurnsBy gives (λ u l. step (f u) l) n call u r v m → TurnsBy given step n call (f u) r (f v) m
  carried n None u r v m h = (h.0, ap f h.1, h.2)
  carried n (Some c) u (Err e) v m h = h
  carried n (Some c) u (Ok shown) v m h =
      let l = line_by c.victim c.line in
      record {
        turn = h.turn;
        calls = turn_through (λ s c t. gives s l c t) given f (λ _. l) (λ s c t k. (refl, each s l c t k)) (λ _. n.id) step (op_by c.victim c.goal) h.turn l u v (f u) (f v) refl refl refl h.calls;
        answers = answer_through (λ s c t. gives s l c t) given f (λ _. l) (λ s c t k. (refl, each s l c t k)) (λ _. n.id) step (op_by c.victim c.goal) h.turn l u v (f u) (f v) refl refl refl h.answers;
        loads = h.loads;
        leaves = h.leaves;
        shows = h.shows;
        node = h.node;
      }
