-- What a node has done over its bank: nothing, or one thing and then another.
use Rattle.std.proofs.Common.{ℕ, Bool, List, [], ◌++◌, refl, ◌∙◌, subst}
use Rattle.sci_core.specs.declared.pending.Pending.{Pending}
use Rattle.sci_port.specs.declared.calls.Call.{Call}
use Rattle.sci_port.specs.Banks.{BankWay}
use Rattle.sci_port.specs.KeepsAll.{keeps_none}
use Rattle.sci_port.specs.Readying.{Readying}
use Rattle.sci_port.specs.ReceiptList.{ReceiptList}
use Rattle.sci_port.proofs.KeepsAll.{keeps_then}
use Rattle.sci_cache.specs.Nodes.{NodeState}
use Rattle.sci_work.specs.Made.{IsBankOf, IsStillBankOf, RestsAgain, stays}
use Rattle.sci_work.specs.Workers.{HasWorked, IsReady}
use Rattle.sci_work.proofs.Reached.{reached_then}
use Rattle.sci_work.proofs.Written.{wrote_none, wrote_then}

module _ {U : Type 0} {step : U → ℕ → Pending} {gives : U → ℕ → Call → U → Type 0} {readies : U → ℕ → Readying → U → Type 0} {receipts : U → ℕ → ReceiptList} where
  pub rests_not : (keeps : Bool) (u : U) → RestsAgain keeps step gives readies receipts u u
  rests_not keeps u = record { idle = λ idle. idle; kept = λ yes. keeps_none }

  pub rests_then : {keeps : Bool} {u w v : U} → RestsAgain keeps step gives readies receipts u w → RestsAgain keeps step gives readies receipts w v → RestsAgain keeps step gives readies receipts u v
  rests_then a b = record { idle = λ idle. b.idle (a.idle idle); kept = λ yes. keeps_then (a.kept yes) (b.kept yes) }

module _ {U K : Type 0} {way : U → BankWay} {keep : U → K} {step : U → ℕ → Pending} {gives : U → ℕ → Call → U → Type 0} {readies : U → ℕ → Readying → U → Type 0} {receipts : U → ℕ → ReceiptList} where
  pub still_not : {u : U} {n : NodeState} → IsBankOf (way u) n → IsStillBankOf n.keeps [] way keep step gives readies receipts u n u
  still_not {u = u} {n = n} ready = record { ready = ready; same_keeps = refl; reached = stays; same_way = refl; same_fact = refl; rests = rests_not n.keeps u; wrote = λ yes. wrote_none }

  pub still_then : {keeps : Bool} {ws xs : List (ℕ × List ℕ)} {u w v : U} {n m : NodeState} → IsStillBankOf keeps ws way keep step gives readies receipts u n w → IsStillBankOf n.keeps xs way keep step gives readies receipts w m v → IsStillBankOf keeps (xs ++ ws) way keep step gives readies receipts u m v
  still_then {w = w} {v = v} a b = record {
    ready = b.ready;
    same_keeps = b.same_keeps ∙ a.same_keeps;
    reached = reached_then a.reached b.reached;
    same_way = b.same_way ∙ a.same_way;
    same_fact = b.same_fact ∙ a.same_fact;
    rests = rests_then a.rests (subst (λ (k : Bool). RestsAgain k step gives readies receipts w v) a.same_keeps b.rests);
    wrote = λ yes. wrote_then (a.wrote yes) (b.wrote (a.same_keeps ∙ yes));
  }

  pub worked_not : {u : U} {n : NodeState} → IsReady step (way u) n u → HasWorked n.keeps [] way keep step gives readies receipts u n u
  worked_not ready = record { ready = ready; same_keeps = refl; reached = stays; kept = λ yes. keeps_none; wrote = λ yes. wrote_none; same_way = refl; same_fact = refl }

  pub worked_then : {keeps : Bool} {ws xs : List (ℕ × List ℕ)} {u w v : U} {n m : NodeState} → HasWorked keeps ws way keep step gives readies receipts u n w → HasWorked n.keeps xs way keep step gives readies receipts w m v → HasWorked keeps (xs ++ ws) way keep step gives readies receipts u m v
  worked_then a b = record {
    ready = b.ready;
    same_keeps = b.same_keeps ∙ a.same_keeps;
    reached = reached_then a.reached b.reached;
    kept = λ yes. keeps_then (a.kept yes) (b.kept (a.same_keeps ∙ yes));
    wrote = λ yes. wrote_then (a.wrote yes) (b.wrote (a.same_keeps ∙ yes));
    same_way = b.same_way ∙ a.same_way;
    same_fact = b.same_fact ∙ a.same_fact;
  }

  -- a node that was ready, and whose bank it is still, is ready again
  pub worked_still : {keeps : Bool} {ws : List (ℕ × List ℕ)} {u v : U} {n m : NodeState} → IsReady step (way u) n u → IsStillBankOf keeps ws way keep step gives readies receipts u m v → HasWorked keeps ws way keep step gives readies receipts u m v
  worked_still ready still = record {
    ready = record { node = still.ready.node; lines = still.ready.lines; free = still.ready.closed; idle = still.rests.idle ready.idle };
    same_keeps = still.same_keeps;
    reached = still.reached;
    kept = still.rests.kept;
    wrote = still.wrote;
    same_way = still.same_way;
    same_fact = still.same_fact;
  }

module _ {U : Type 0} {step : U → ℕ → Pending} where
  -- a node that is ready may make a call
  pub may_call : {way : BankWay} {n : NodeState} {u : U} → IsReady step way n u → IsBankOf way n
  may_call ready = record { node = ready.node; lines = ready.lines; closed = ready.free }
