use Rattle.std.proofs.Common.{rules, ◌≡◌, ◌+◌, ◌∙◌, true, false, [], None, ap}
use Rattle.std.proofs.lemmas.List.{length_push}
use Rattle.sci_cache.specs.Nodes.{NodeState, node_state}
use Rattle.sci_script.proofs.Opened.{idle_push}
use Rattle.sci_script.proofs.nodes.idle.Goals as goal

pub loop-number-preserved : goal.loop-number-preserved
loop-number-preserved c =
    let made : c.in-Ok.node ≡ node_state c.loop-number.number c.args.script.now.size.lines c.args.script.now.capacity true [] None = search rules in
    record {
      counted = rw c.in_ok-push-in-Ok.ensures.items (length_push c.loop-number.nodes.items _ ∙ ap (λ n. n + 1) c.loop-number.invariant.counted);
      idle = rw c.in_ok-push-in-Ok.ensures.items (idle_push c.args.script.now.size.lines c.args.script.now.capacity c.loop-number.nodes.items c.loop-number.number c.without_receipts.result c.loop-number.invariant.counted c.loop-number.invariant.idle (c.without_receipts.ensures ∙ ap (λ (n : NodeState). record n { keeps = false }) made));
    }
