use Rattle.std.proofs.Common.{ℕ, ◌≤◌, ◌∙◌, List, [], ◌∷◌, ◌++◌, length, ap, sym, subst}
use Rattle.std.proofs.lemmas.List.{map-append}
use Rattle.std.proofs.lemmas.Map.Entries.{length-keys_of}
use Rattle.sci_cache.specs.Nodes.{NodeState}
use Rattle.sci_cache.proofs.node.Node.resident.Goals as goal

pub returns-in_err-lines-clause-few : goal.returns-in_err-lines-clause-few
returns-in_err-lines-clause-few c = subst (λ (k : NodeState). length k.residents ≤ k.capacity) c.self.view_is (subst (λ (k : ℕ). k ≤ c.self.inside.table.cap) (sym (length-keys_of c.self.inside.table.entries)) c.len.ensures.valid.1)

pub returns-in_err-push-clause-few : goal.returns-in_err-push-clause-few
returns-in_err-push-clause-few c = subst (λ (k : NodeState). length k.residents ≤ k.capacity) c.self.view_is (subst (λ (k : ℕ). k ≤ c.self.inside.table.cap) (sym (length-keys_of c.self.inside.table.entries)) c.len.ensures.valid.1)

pub returns-clause-few : goal.returns-clause-few
returns-clause-few c = subst (λ (k : NodeState). length k.residents ≤ k.capacity) c.self.view_is (subst (λ (k : ℕ). k ≤ c.self.inside.table.cap) (sym (length-keys_of c.self.inside.table.entries)) c.len.ensures.valid.1)

pub loop-line-init : goal.loop-line-init
loop-line-init c = c.in_ok-lines.ensures.items

pub loop-line-preserved : goal.loop-line-preserved
loop-line-preserved c =
    c.in_ok-push.ensures.items
    ∙ ap (λ (xs : List ℕ). xs ++ c.in-Some.line.now ∷ []) c.loop-line.invariant
    ∙ sym (map-append _ c.loop-line.yielded _)
