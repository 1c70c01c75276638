-- What an open call needs of its lines' receipts.
use Rattle.std.proofs.Common.{◌≡◌, ◌≢◌, inl, inr, ℕ, ◌≤◌, nat_eq, if◌then◌else◌, Option, Some, None, IfSome, sym, subst, arith}
use Rattle.std.proofs.lemmas.Bool.{cases_eq}
use Rattle.sci_core.specs.declared.pending.Pending.{Pending}
use Rattle.sci_port.specs.declared.calls.Call.{Call}
use Rattle.sci_port.specs.ReceiptList.{ReceiptList}
use Rattle.sci_ops.specs.declared.answers.Answer.{Answer}
use Rattle.sci_ops.specs.declared.answers.Turn.{Turn}
use Rattle.sci_ops.specs.declared.goals.Goal.{Goal}
use Rattle.sci_ops.specs.Operation.{Operation}
use Rattle.sci_ops.specs.Room.{HasNeed, IsProvided, KeepsTurn, need_in, need_until}
use Rattle.sci_ops.specs.Table.{begun}
use Rattle.sci_cache.specs.declared.calls.OpenCall.{OpenCall}
use Rattle.sci_cache.specs.declared.requests.Request.{Request}
use Rattle.sci_cache.specs.Called.{AreReadyFor, HasNeeds, IsProvidedFor, IsReadyFor, is_victim, need_on}
use Rattle.sci_cache.specs.Requests.{goal_of, line_of}
use Rattle.sci_cache.specs.Nodes.{NodeState, call_after, call_with, line_by, op_by, victim_with}
use Rattle.sci_cache.proofs.Begun.{if_not, if_so, victim_apart}
use Rattle.sci_cache.proofs.Keeping.{ready_need}
use Rattle.sci_cache.proofs.Ordered.{other_number, same_line}

-- ---- a call that is begun

module _ (step : ℕ → Pending) (receipts : ℕ → ReceiptList) where
  ready_exit : (w : Option ℕ) → IfSome w (λ x. IsReadyFor Goal.Evict (receipts x)) → IfSome w (λ x. HasNeed Goal.Evict (step x) (receipts x))
  ready_exit None h = tt
  ready_exit (Some x) h = ready_need Goal.Evict (step x) (receipts x) h

  -- what is ready for a request provides for its call
  pub ready_provides : (n : NodeState) (r : Request) → AreReadyFor r (victim_with n r) receipts → HasNeeds (call_with n r) step receipts
  ready_provides n r h = record {
    line = ready_need (goal_of r) (step (line_of r)) (receipts (line_of r)) h.line;
    exit = ready_exit (victim_with n r) h.exit;
    apart = victim_apart n r;
  }

  need_met : (goal : Goal) (answer : Option Answer) (p : Pending) (s : ReceiptList) → IsProvided goal answer p s → need_until goal answer p s ≤ s.room
  need_met goal (Some a) p s h = omega arith
  need_met goal None p s h = h.room

  exit_met : (w : Option ℕ) (m : ℕ) → IfSome w (λ x. HasNeed Goal.Evict (step x) (receipts x)) → (if is_victim w m then need_in Goal.Evict (step m) (receipts m) else 0) ≤ (receipts m).room
  exit_met None m h = omega arith
  exit_met (Some x) m h = elim (cases_eq m x) [
    | inl e ↦
        subst (λ (k : ℕ). (if nat_eq x k then need_in Goal.Evict (step k) (receipts k) else 0) ≤ (receipts k).room) (sym e)
        (subst (λ (k : ℕ). k ≤ (receipts x).room) (sym (if_so (nat_eq x x) (need_in Goal.Evict (step x) (receipts x)) 0 (same_line x))) h.room)
    | inr ne ↦ subst (λ (k : ℕ). k ≤ (receipts m).room) (sym (if_not (nat_eq x m) (need_in Goal.Evict (step m) (receipts m)) 0 (other_number x m ne))) (omega arith)
  ]

  -- a call that is provided for has the room that it needs on each line
  pub needs_met : (c : OpenCall) → HasNeeds c step receipts → (m : ℕ) → need_on (Some c) step receipts m ≤ (receipts m).room
  needs_met c h m = elim (cases_eq m c.line) [
    | inl e ↦
        subst (λ (k : ℕ). need_on (Some c) step receipts k ≤ (receipts k).room) (sym e)
        (subst (λ (k : ℕ). k ≤ (receipts c.line).room) (sym (if_so (nat_eq c.line c.line) (need_in c.goal (step c.line) (receipts c.line)) _ (same_line c.line))) (need_met c.goal None (step c.line) (receipts c.line) h.line))
    | inr ne ↦ subst (λ (k : ℕ). k ≤ (receipts m).room) (sym (if_not (nat_eq c.line m) (need_in c.goal (step m) (receipts m)) _ (other_number c.line m ne))) (exit_met c.victim m h.exit)
  ]

-- ---- a call that goes on

module _ {U : Type 0} (gives : U → ℕ → Call → U → Type 0) (step : U → ℕ → Pending) (receipts : U → ℕ → ReceiptList) (c : OpenCall) (u v : U) where
  abbrev pub KeptAs : Turn → Operation → ℕ → Type 0
  KeptAs t o line = IsProvided o.goal o.answer (step u line) (receipts u line) → KeepsTurn (λ s call r. gives s line call r) (λ s. receipts s line) o u t v (step v line)

  -- the other lines' steps and receipts are those that they were
  pub record LeavesAlone (line : ℕ) : Type 0 where
    pub steps : (m : ℕ) → m ≢ line → step v m ≡ step u m
    pub other_receipts : (m : ℕ) → m ≢ line → receipts v m ≡ receipts u m

  waits : (x : ℕ) → c.line ≢ x → LeavesAlone x → IsProvided c.goal None (step u c.line) (receipts u c.line) → IsProvided c.goal None (step v c.line) (receipts v c.line)
  waits x apart others h =
      subst (λ (p : Pending). IsProvided c.goal None p (receipts v c.line)) (sym (others.steps c.line apart))
      (subst (λ (s : ReceiptList). IsProvided c.goal None (step u c.line) s) (sym (others.other_receipts c.line apart)) h)

  module _ (h : HasNeeds c (step u) (receipts u)) where
    works_on : c.victim ≡ None → IsProvided c.goal None (step v c.line) (receipts v c.line) → HasNeeds c (step v) (receipts v)
    works_on out line = record { line = line; exit = subst (λ (o : Option ℕ). IfSome o (λ x. HasNeed Goal.Evict (step v x) (receipts v x))) (sym out) tt; apart = h.apart }

    apart_from : (x : ℕ) → c.victim ≡ Some x → c.line ≢ x
    apart_from x out = subst (λ (o : Option ℕ). IfSome o (λ y. c.line ≢ y)) out h.apart

    exit_of : (x : ℕ) → c.victim ≡ Some x → HasNeed Goal.Evict (step u x) (receipts u x)
    exit_of x out = subst (λ (o : Option ℕ). IfSome o (λ y. HasNeed Goal.Evict (step u y) (receipts u y))) out h.exit

    goes_out : (x : ℕ) → c.victim ≡ Some x → LeavesAlone x → HasNeed Goal.Evict (step v x) (receipts v x) → HasNeeds c (step v) (receipts v)
    goes_out x out others need = record {
      line = waits x (apart_from x out) others h.line;
      exit = subst (λ (o : Option ℕ). IfSome o (λ y. HasNeed Goal.Evict (step v y) (receipts v y))) (sym out) need;
      apart = h.apart;
    }

    -- the call after a turn has what it needs, where it had that before
    pub provided_after : (w : Option ℕ) (t : Turn) → c.victim ≡ w → KeptAs t (op_by w c.goal) (line_by w c.line) → LeavesAlone (line_by w c.line) → IsProvidedFor (call_after c w t) (step v) (receipts v)
    provided_after None (Turn.Done a) out kept others = tt
    provided_after None Turn.Moved out kept others = works_on out (kept h.line).provided
    provided_after None Turn.Waiting out kept others = works_on out (kept h.line).provided
    provided_after (Some x) (Turn.Done a) out kept others = record { line = waits x (apart_from x out) others h.line; exit = tt; apart = tt }
    provided_after (Some x) Turn.Moved out kept others = goes_out x out others (kept (exit_of x out)).provided
    provided_after (Some x) Turn.Waiting out kept others = goes_out x out others (kept (exit_of x out)).provided

  -- the same of a node's open call, where the operation o was at work
  pub still_provided : (call new : Option OpenCall) (w : Option ℕ) (t : Turn) (o : Operation) → call ≡ Some c → c.victim ≡ w → o ≡ op_by w c.goal → new ≡ call_after c w t → KeptAs t o (line_by w c.line) → LeavesAlone (line_by w c.line) → IsProvidedFor call (step u) (receipts u) → IsProvidedFor new (step v) (receipts v)
  still_provided call new w t o open_ out is next kept others h =
      subst (λ (x : Option OpenCall). IsProvidedFor x (step v) (receipts v)) (sym next)
      (provided_after (subst (λ (x : Option OpenCall). IsProvidedFor x (step u) (receipts u)) open_ h) w t out (subst (λ (x : Operation). KeptAs t x (line_by w c.line)) is kept) others)
