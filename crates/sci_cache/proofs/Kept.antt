-- A request's turns, one after another, of which its node's receipts keep all.
use Rattle.std.proofs.Common.{◌≡◌, ℕ, Option, Some, None, Ok, refl, sym, subst, ◌∙◌}
use Rattle.sci_core.specs.declared.pending.Pending.{Pending}
use Rattle.sci_port.specs.declared.calls.Call.{Call}
use Rattle.sci_port.specs.Readying.{Readying}
use Rattle.sci_port.specs.ReceiptList.{ReceiptList}
use Rattle.sci_ops.specs.declared.answers.Answer.{Answer}
use Rattle.sci_ops.specs.declared.answers.Turn.{Turn}
use Rattle.sci_ops.specs.declared.goals.Goal.{Goal}
use Rattle.sci_ops.specs.Kept.{KeepsAnswer}
use Rattle.sci_ops.specs.Table.{begun}
use Rattle.sci_ops.proofs.Last.{last_receipt}
use Rattle.sci_cache.specs.declared.requests.Request.{Request}
use Rattle.sci_cache.specs.Called.{HasNeeds, IsProvidedFor, KeepsOn, KeepsRequest}
use Rattle.sci_cache.specs.Laws.{TurnKeeps, TurnKeepsBy, TurnsKeep, none_yet, one_more}
use Rattle.sci_cache.specs.Nodes.{GoesOn, NodeState, line_by, node_after, node_with, op_by, shown_by, victim_with}
use Rattle.sci_cache.specs.Requests.{goal_of, line_of}
use Rattle.sci_cache.proofs.Keeping.{IsAtWork, answered_keeps, extends_on, has_worked, none_on, still_at_work, worked_on}
use Rattle.sci_cache.proofs.Provided.{KeptAs, LeavesAlone, provided_after}
use Rattle.sci_cache.proofs.Waited.{call_of, work_of}

ends_none : (b : Answer) (t : Turn) → Turn.Done b ≡ t → GoesOn t → ⊥
ends_none b t e on = subst (λ (x : Turn). GoesOn x) (sym e) on

-- no victim's turn ends the call
ends_by : (x : ℕ) (t : Turn) (answer : Answer) → Turn.Done answer ≡ shown_by (Some x) t → ⊥
ends_by x (Turn.Done b) answer e = ends_none answer Turn.Moved e tt
ends_by x Turn.Moved answer e = ends_none answer Turn.Moved e tt
ends_by x Turn.Waiting answer e = ends_none answer Turn.Waiting e tt

module _ {U : Type 0} (gives : U → ℕ → Call → U → Type 0) (readies : U → ℕ → Readying → U → Type 0) (step : U → ℕ → Pending) (receipts : U → ℕ → ReceiptList) (n : NodeState) (r : Request) where
  -- a call has what it needs, and its receipts have kept all so far
  record HasKept (a : U) (w : Option ℕ) (u : U) : Type 0 where
    pub needs : HasNeeds (call_of r w) (step u) (receipts u)
    pub on : KeepsOn gives readies receipts a u

  module _ (a u v : U) where
    abbrev Kept : Option ℕ → Turn → Type 0
    Kept w t = KeptAs gives step receipts (call_of r w) u v t (op_by w (goal_of r)) (line_by w (line_of r))

    abbrev Alone : Option ℕ → Type 0
    Alone w = LeavesAlone gives step receipts (call_of r w) u v (line_by w (line_of r))

    kept_on : (w : Option ℕ) (t : Turn) → HasKept a w u → GoesOn (shown_by w t) → Kept w t → Alone w → KeepsOn gives readies receipts a v
    kept_on None t h on kept alone = (still_at_work gives readies step receipts (goal_of r) (line_of r) (begun (goal_of r)) refl u v t (line_of r) refl kept alone.other_receipts record { on = h.on; need = h.needs.line } on).on
    kept_on (Some x) t h on kept alone = worked_on gives readies step receipts Goal.Evict x (begun Goal.Evict) refl u v t x refl kept alone.other_receipts record { on = h.on; need = h.needs.exit } refl

    -- a turn that goes on
    goes_on : (w : Option ℕ) (t : Turn) → HasKept a w u → GoesOn (shown_by w t) → Kept w t → Alone w → (z : Option ℕ) × (node_after (work_of n r w) (call_of r w) t ≡ work_of n r z) × HasKept a z v
    goes_on None (Turn.Done b) h on kept alone = absurd on
    goes_on None Turn.Moved h on kept alone = (None, refl, record { needs = provided_after gives step receipts (call_of r None) u v h.needs None Turn.Moved refl kept alone; on = kept_on None Turn.Moved h on kept alone })
    goes_on None Turn.Waiting h on kept alone = (None, refl, record { needs = provided_after gives step receipts (call_of r None) u v h.needs None Turn.Waiting refl kept alone; on = kept_on None Turn.Waiting h on kept alone })
    goes_on (Some x) (Turn.Done b) h on kept alone = (None, refl, record { needs = provided_after gives step receipts (call_of r (Some x)) u v h.needs (Some x) (Turn.Done b) refl kept alone; on = kept_on (Some x) (Turn.Done b) h on kept alone })
    goes_on (Some x) Turn.Moved h on kept alone = (Some x, refl, record { needs = provided_after gives step receipts (call_of r (Some x)) u v h.needs (Some x) Turn.Moved refl kept alone; on = kept_on (Some x) Turn.Moved h on kept alone })
    goes_on (Some x) Turn.Waiting h on kept alone = (Some x, refl, record { needs = provided_after gives step receipts (call_of r (Some x)) u v h.needs (Some x) Turn.Waiting refl kept alone; on = kept_on (Some x) Turn.Waiting h on kept alone })

    -- one that ends the call
    abbrev Last : Option ℕ → Turn → Type 0
    Last w t = KeepsAnswer (op_by w (goal_of r)) t (receipts u (line_by w (line_of r))) (receipts v (line_by w (line_of r)))

    ends : (w : Option ℕ) (t : Turn) (answer : Answer) → HasKept a w u → Turn.Done answer ≡ shown_by w t → Kept w t → Last w t → Alone w → KeepsRequest gives readies receipts r a (Ok answer) v
    ends (Some x) t answer h e kept last alone = absurd (ends_by x t answer e)
    ends None t answer h e kept last alone =
        let done : Kept None (Turn.Done answer) = subst (λ (x : Turn). Kept None x) (sym e) kept in
        let told_last : Last None (Turn.Done answer) = subst (λ (x : Turn). Last None x) (sym e) last in
        let work : IsAtWork gives readies step receipts (goal_of r) (line_of r) a u = record { on = h.on; need = h.needs.line } in
        answered_keeps gives readies step receipts r a v answer
        (has_worked gives readies step receipts (goal_of r) (line_of r) (begun (goal_of r)) refl u v (Turn.Done answer) (line_of r) refl done alone.other_receipts work)
        (last_receipt (goal_of r) answer (step u (line_of r)) (receipts a (line_of r)).list (receipts u (line_of r)) (receipts v (line_of r)) (h.on.extends (line_of r))
        (extends_on gives readies step receipts (goal_of r) (line_of r) (begun (goal_of r)) refl u v (Turn.Done answer) (line_of r) refl done alone.other_receipts work) work.need told_last)

  abbrev IsKeptAt : U → NodeState → U → Type 0
  IsKeptAt a k u = (w : Option ℕ) × (k ≡ work_of n r w) × HasKept a w u

  -- the turn of a node that has the request at work
  turn_of : (k : NodeState) (w : Option ℕ) → k ≡ work_of n r w → (u : U) (t : Turn) (v : U) (m : NodeState) → TurnKeepsBy gives step receipts k k.call u t v m → TurnKeeps gives step receipts (work_of n r w) (call_of r w) u t v m
  turn_of k w is u t v m h = subst (λ (x : NodeState). TurnKeepsBy gives step receipts x x.call u t v m) is h

  on_with : (a u v : U) (k m : NodeState) (t : Turn) → GoesOn t → TurnKeepsBy gives step receipts k k.call u t v m → IsKeptAt a k u → IsKeptAt a m v
  on_with a u v k m t on by (w, is, h) =
      let d = turn_of k w is u t v m by in
      let z = goes_on a u v w d.kept.turn h (subst (λ (x : Turn). GoesOn x) d.kept.shows on) d.kept.kept record { steps = d.steps; other_receipts = d.other_receipts } in
      (z.0, d.kept.node ∙ z.1, z.2)

  so_far : (a : U) {from before : NodeState} {at : U} → from ≡ node_with n r → HasNeeds (call_of r (victim_with n r)) (step a) (receipts a) → TurnsKeep gives step receipts from a before at → IsKeptAt a before at
  so_far a same needs none_yet = (victim_with n r, same, record { needs = needs; on = none_on gives readies step receipts a })
  so_far a same needs (one_more {k = k} {m = m} {w = w} {v = v} t turns on by) = on_with a w v k m t on by (so_far a same needs turns)

  pub requests_kept : (u : U) (before : NodeState) (at : U) (answer : Answer) (v : U) (m : NodeState) → IsProvidedFor (node_with n r).call (step u) (receipts u) → TurnsKeep gives step receipts (node_with n r) u before at → TurnKeepsBy gives step receipts before before.call at (Turn.Done answer) v m
      → KeepsRequest gives readies receipts r u (Ok answer) v
  requests_kept u before at answer v m needs turns last =
      let k = so_far u refl needs turns in
      let d = turn_of before k.0 k.1 at (Turn.Done answer) v m last in
      ends u at v k.0 d.kept.turn answer k.2 d.kept.shows d.kept.kept d.kept.last record { steps = d.steps; other_receipts = d.other_receipts }
