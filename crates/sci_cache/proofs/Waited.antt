-- A call's turns, one after another.
use Rattle.std.proofs.Common.{◌≡◌, inl, inr, ℕ, nat_lt, Bool, true, false, not, if◌then◌else◌, Option, Some, None, is_some, Result, Ok, Err, refl, sym, subst, ◌∙◌}
use Rattle.sci_core.specs.declared.pending.Pending.{Pending}
use Rattle.sci_port.specs.declared.calls.Call.{Call}
use Rattle.sci_ops.specs.declared.answers.Answer.{Answer}
use Rattle.sci_ops.specs.declared.answers.Turn.{Turn}
use Rattle.sci_ops.specs.Table.{begun}
use Rattle.sci_cache.specs.declared.calls.OpenCall.{OpenCall}
use Rattle.sci_cache.specs.declared.refusals.NodeRefusal.{NodeRefusal}
use Rattle.sci_cache.specs.declared.requests.Request.{Request}
use Rattle.sci_cache.specs.Requests.{line_of, goal_of, has_bad_word}
use Rattle.sci_cache.specs.Nodes.{NodeState, TurnsBy, Waits, IsRefused, shown_by, node_after, node_ended, residents_with, GoesOn, LeavesIdle, IsSameNode}

pub still_same : {n k m : NodeState} → IsSameNode n k → IsSameNode k m → IsSameNode n m
still_same h g = record { id = g.id ∙ h.id; lines = g.lines ∙ h.lines; capacity = g.capacity ∙ h.capacity; keeps = g.keeps ∙ h.keeps }

-- what a request has at work, with a victim still or without
abbrev pub call_of : Request → Option ℕ → OpenCall
call_of r w = record { line = line_of r; goal = goal_of r; victim = w }

abbrev pub work_of : NodeState → Request → Option ℕ → NodeState
work_of n r w = record n { residents = residents_with n r; call = Some (call_of r w) }

-- the request is at work, with a victim still or without
abbrev pub AtWork : NodeState → Request → NodeState → Type 0
AtWork n r k = (w : Option ℕ) × (k ≡ work_of n r w)

pub ended_node : (n : NodeState) (r : Request) (a : Answer) → node_after (work_of n r None) (call_of r None) (Turn.Done a) ≡ node_ended n r
ended_node n (Request.Load line) a = refl
ended_node n (Request.Store line word value) a = refl
ended_node n (Request.Add line word delta) a = refl
ended_node n (Request.WriteLine line words) a = refl
ended_node n (Request.Evict line) a = refl

goes : (n : NodeState) (r : Request) (w : Option ℕ) (turn : Turn) → GoesOn (shown_by w turn) → AtWork n r (node_after (work_of n r w) (call_of r w) turn)
goes n r None (Turn.Done b) h = absurd h
goes n r None Turn.Moved h = (None, refl)
goes n r None Turn.Waiting h = (None, refl)
goes n r (Some x) (Turn.Done b) h = (None, refl)
goes n r (Some x) Turn.Moved h = (Some x, refl)
goes n r (Some x) Turn.Waiting h = (Some x, refl)

module _ {U : Type 0} (gives : U → ℕ → Call → U → Type 0) (step : U → ℕ → Pending) (n : NodeState) (r : Request) (k : NodeState) (work : AtWork n r k) (u v : U) (m : NodeState) where
  at_work : (t : Result Turn NodeRefusal) → TurnsBy gives step k k.call u t v m → TurnsBy gives step (work_of n r work.0) (Some (call_of r work.0)) u t v m
  at_work t h = subst (λ (x : NodeState). TurnsBy gives step x x.call u t v m) work.1 h

  pub turn_goes : (t : Turn) → GoesOn t → TurnsBy gives step k k.call u (Ok t) v m → AtWork n r m
  turn_goes t on h =
      let d = at_work (Ok t) h in
      subst (λ (x : NodeState). AtWork n r x) (sym d.node) (goes n r work.0 d.turn (subst (λ (x : Turn). GoesOn x) d.shows on))

-- ---- a request that is refused

none_spent : (a b d : Bool) → ◌≡◌ {A = Option NodeRefusal} (if a then Some NodeRefusal.CallOpen else (if b then Some NodeRefusal.BadLine else (if d then Some NodeRefusal.BadWord else None))) (Some NodeRefusal.StampsSpent) → ⊥
none_spent true b d h = cc
none_spent false true d h = cc
none_spent false false true h = cc
none_spent false false false h = cc

refused_spent : (n : NodeState) (r : Request) → IsRefused n r NodeRefusal.StampsSpent → ⊥
refused_spent n r (inl h) = none_spent (is_some n.call) (not (nat_lt (line_of r) n.lines)) (has_bad_word r) h
refused_spent n r (inr h) = let e = h.1 in cc

pub refused_idle : (n : NodeState) (r : Request) (e : NodeRefusal) (p : Pending) → IsRefused n r e → LeavesIdle (Err e) p
refused_idle n r NodeRefusal.StampsSpent p h = absurd (refused_spent n r h)
refused_idle n r _ p h = tt

pub refused_waits : {U : Type 0} (gives : U → ℕ → Call → U → Type 0) (step : U → ℕ → Pending) (n : NodeState) (r : Request) (e : NodeRefusal) (u : U) (m : NodeState) → IsRefused n r e → m ≡ n → Waits gives step n r u (Err e) u m
refused_waits gives step n r NodeRefusal.StampsSpent u m h same = absurd (refused_spent n r h)
refused_waits gives step n r _ u m h same = (h, refl, same)
