-- What a worker has done, put together.
use Rattle.std.proofs.Common.{◌≡◌, ℕ, true, Option, None, Result, Ok, Err, List, ◌++◌, sym, ap, subst, ◌∙◌}
use Rattle.std.specs.Result.{OnErr, OnOk}
use Rattle.sci_core.specs.declared.pending.Pending.{Pending}
use Rattle.sci_port.specs.declared.calls.Call.{Call}
use Rattle.sci_port.specs.Banks.{BankWay}
use Rattle.sci_port.specs.Readying.{Readying}
use Rattle.sci_port.specs.ReceiptList.{ReceiptList}
use Rattle.sci_ops.specs.declared.answers.Answer.{Answer}
use Rattle.sci_cache.specs.declared.calls.OpenCall.{OpenCall}
use Rattle.sci_cache.specs.declared.refusals.NodeRefusal.{NodeRefusal}
use Rattle.sci_cache.specs.declared.requests.Request.{Request}
use Rattle.sci_cache.specs.Called.{HasCalled}
use Rattle.sci_cache.specs.Nodes.{IsIdleBut, NodeState, Waits}
use Rattle.sci_work.specs.Made.{IsBankOf, IsStillBankOf, Made, none, ready, look, load, write, refused}
use Rattle.sci_work.specs.Written.{HasWrote}
use Rattle.sci_work.proofs.Reached.{called}

pub on_ok : {A E X : Type 0} → (r : Result A E) → X → OnOk r X
on_ok (Ok a) x = x
on_ok (Err e) x = tt

pub on_ok_then : {A E X Y : Type 0} → (r : Result A E) → (X → Y) → OnOk r X → OnOk r Y
on_ok_then (Ok a) f x = f x
on_ok_then (Err e) f x = tt

pub on_err : {A E X : Type 0} → (r : Result A E) → X → OnErr r X
on_err (Ok a) x = tt
on_err (Err e) x = x

module _ {U : Type 0} (gives : U → ℕ → Call → U → Type 0) (readies : U → ℕ → Readying → U → Type 0) (step : U → ℕ → Pending) where
  -- a call that waited leaves none open
  closed_after : (n : NodeState) (r : Request) (u : U) (result : Result Answer NodeRefusal) (v : U) (m : NodeState) → Waits gives step n r u result v m → n.call ≡ None → m.call ≡ None
  closed_after n r u (Ok answer) v m h closed = ap (λ k. k.call) h.0.node
  closed_after n r u (Err NodeRefusal.StampsSpent) v m h closed = ap (λ k. k.call) h.node
  closed_after n r u (Err NodeRefusal.OutOfMemory) v m h closed = ap (λ k. k.call) h.2 ∙ closed
  closed_after n r u (Err NodeRefusal.BadWord) v m h closed = ap (λ k. k.call) h.2 ∙ closed
  closed_after n r u (Err NodeRefusal.BadLine) v m h closed = ap (λ k. k.call) h.2 ∙ closed
  closed_after n r u (Err NodeRefusal.BadCapacity) v m h closed = ap (λ k. k.call) h.2 ∙ closed
  closed_after n r u (Err NodeRefusal.CallOpen) v m h closed = ap (λ k. k.call) h.2 ∙ closed
  closed_after n r u (Err NodeRefusal.NoCall) v m h closed = ap (λ k. k.call) h.2 ∙ closed

  -- what was done, and then more
  pub made_all : {xs ws : List (ℕ × List ℕ)} {n k m : NodeState} {u w v : U} → Made gives readies step ws n u k w → Made gives readies step xs k w m v → Made gives readies step (xs ++ ws) n u m v
  made_all a none = a
  made_all a (ready b h) = ready (made_all a b) h
  made_all a (look line tag b h) = look line tag (made_all a b) h
  made_all a (load line result b h) = load line result (made_all a b) h
  made_all a (write line words answer b h) = write line words answer (made_all a b) h
  made_all a (refused line words refusal b h) = refused line words refusal (made_all a b) h

module _ {U K : Type 0} {way : U → BankWay} {nodes_on : U → ℕ → ℕ} {keep : U → K} {fits : K → ℕ → List ℕ → Type 0} {gives : U → ℕ → Call → U → Type 0} {readies : U → ℕ → Readying → U → Type 0} {step : U → ℕ → Pending} {receipts : U → ℕ → ReceiptList}
    (n : NodeState) (r : Request) (u : U) (result : Result Answer NodeRefusal) (v : U) (m : NodeState) (h : HasCalled way nodes_on keep fits gives readies step receipts n r u result v m) where
  -- a call that waited leaves the bank the node's
  pub still_called : {ws : List (ℕ × List ℕ)} → (n.keeps ≡ true → HasWrote ws (receipts u) (receipts v)) → IsBankOf (way u) n → IsStillBankOf n.keeps ws way keep step gives readies receipts u m v
  still_called wrote bank =
      let closed : m.call ≡ None = closed_after gives readies step n r h.ready result v m h.waits bank.closed in
      record {
        ready = record {
          node = ap (λ (x : BankWay). x.node) h.same_way ∙ bank.node ∙ sym h.same_node.id;
          lines = ap (λ (x : BankWay). x.lines) h.same_way ∙ bank.lines ∙ sym h.same_node.lines;
          closed = closed;
        };
        same_keeps = h.same_node.keeps;
        reached = called step n r u h.ready result v m h.readied h.waits;
        same_way = h.same_way;
        same_fact = h.same_fact;
        rests = record {
          idle = λ idle. subst (λ (c : Option OpenCall). IsIdleBut c (step v)) closed (h.rest (subst (λ (c : Option OpenCall). IsIdleBut c (step u)) (sym bank.closed) idle));
          kept = λ yes. (h.kept yes).all;
        };
        wrote = wrote;
      }
