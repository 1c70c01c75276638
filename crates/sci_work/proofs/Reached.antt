-- Where a node's calls have led its bank.
use Rattle.std.proofs.Common.{◌≡◌, ℕ, Option, Some, None, Result, Ok, Err, List, [], ◌∷◌, refl, sym, subst, ◌∙◌}
use Rattle.sci_core.specs.declared.pending.Pending.{Pending}
use Rattle.sci_port.specs.declared.calls.Call.{Call}
use Rattle.sci_port.specs.Call.{Chain}
use Rattle.sci_port.specs.KeepsAll.{IsReadied, as_it_was, readied_on}
use Rattle.sci_port.specs.Readying.{Readying}
use Rattle.sci_ops.specs.declared.answers.Answer.{Answer}
use Rattle.sci_ops.specs.declared.answers.Turn.{Turn}
use Rattle.sci_cache.specs.declared.calls.OpenCall.{OpenCall}
use Rattle.sci_cache.specs.declared.refusals.NodeRefusal.{NodeRefusal}
use Rattle.sci_cache.specs.declared.requests.Request.{Request}
use Rattle.sci_cache.specs.Nodes.{NodeState, EndsWith, Runs, TurnsBy, Waits, none, more}
use Rattle.sci_work.specs.Made.{IsReached, by_call, by_readying, stays}

module _ {U : Type 0} {gives : U → ℕ → Call → U → Type 0} {readies : U → ℕ → Readying → U → Type 0} where
  -- what no call changes is as it was
  pub reached_field : {X : Type 0} (f : U → X) → ((u : U) (line : ℕ) (c : Call) (v : U) → gives u line c v → f v ≡ f u) → ((u : U) (line : ℕ) (r : Readying) (v : U) → readies u line r v → f v ≡ f u) → {u v : U} → IsReached gives readies u v → f v ≡ f u
  reached_field f call ready stays = refl
  reached_field f call ready (by_call line c given rest) = reached_field f call ready rest ∙ call _ line c _ given
  reached_field f call ready (by_readying line r given rest) = reached_field f call ready rest ∙ ready _ line r _ given

  pub reached_then : {u w v : U} → IsReached gives readies u w → IsReached gives readies w v → IsReached gives readies u v
  reached_then stays b = b
  reached_then (by_call line c given rest) b = by_call line c given (reached_then rest b)
  reached_then (by_readying line r given rest) b = by_readying line r given (reached_then rest b)

  same_bank : {u v : U} → v ≡ u → IsReached gives readies u v
  same_bank {u = u} is = subst (λ (x : U). IsReached gives readies u x) (sym is) stays

  readied : {u v : U} → IsReadied readies u v → IsReached gives readies u v
  readied as_it_was = stays
  readied (readied_on line r given rest) = by_readying line r given (readied rest)

  chained : (line : ℕ) (calls : List Call) (u v : U) → Chain (λ a c b. gives a line c b) u calls v → IsReached gives readies u v
  chained line [] u v h = same_bank h
  chained line (c ∷ cs) u v (mid, given, rest) = by_call line c given (chained line cs mid v rest)

  module _ (step : U → ℕ → Pending) where
    turned : (n : NodeState) (c : Option OpenCall) (u : U) (turn : Turn) (v : U) (m : NodeState) → TurnsBy gives step n c u (Ok turn) v m → IsReached gives readies u v
    turned n None u turn v m h = same_bank h.1
    turned n (Some c) u turn v m h = chained _ h.calls.calls u v h.calls.chain

    run : {n m : NodeState} {u v : U} → Runs gives step n u m v → IsReached gives readies u v
    run none = stays
    run (more {k = k} turn before on h) = reached_then (run before) (turned k k.call _ turn _ _ h)

    ended : (n : NodeState) (r : Request) (u : U) (answer : Answer) (v : U) (m : NodeState) → EndsWith gives step n r u answer v m → IsReached gives readies u v
    ended n r u answer v m h = reached_then (run h.runs) (turned h.before h.before.call h.at (Turn.Done answer) v m h.last)

    -- by a call that waited
    waited : (n : NodeState) (r : Request) (u : U) (result : Result Answer NodeRefusal) (v : U) (m : NodeState) → Waits gives step n r u result v m → IsReached gives readies u v
    waited n r u (Ok answer) v m h = ended n r u answer v m h.0
    waited n r u (Err NodeRefusal.StampsSpent) v m h = ended n r u Answer.Spent v m h
    waited n r u (Err NodeRefusal.OutOfMemory) v m h = same_bank h.1
    waited n r u (Err NodeRefusal.BadWord) v m h = same_bank h.1
    waited n r u (Err NodeRefusal.BadLine) v m h = same_bank h.1
    waited n r u (Err NodeRefusal.BadCapacity) v m h = same_bank h.1
    waited n r u (Err NodeRefusal.CallOpen) v m h = same_bank h.1
    waited n r u (Err NodeRefusal.NoCall) v m h = same_bank h.1

    pub called : (n : NodeState) (r : Request) (u w : U) (result : Result Answer NodeRefusal) (v : U) (m : NodeState) → IsReadied readies u w → Waits gives step n r w result v m → IsReached gives readies u v
    called n r u w result v m made h = reached_then (readied made) (waited n r w result v m h)
