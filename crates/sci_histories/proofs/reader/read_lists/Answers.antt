use Rattle.std.proofs.Common.{◌-◌, ◌+◌, [], ◌∷◌, arith, refl, length-append}
use Rattle.std.proofs.lemmas.Result.{err_from_is_err_and}
use Rattle.sci_histories.specs.Reading.{lists_at}
use Rattle.sci_histories.proofs.Looping.{list_more, list_fault, lists_done}
use Rattle.sci_histories.proofs.reader.read_lists.Goals as goal

pub returns-in_err-found-clause-exact : goal.returns-in_err-found-clause-exact
returns-in_err-found-clause-exact c =
    let p = err_from_is_err_and c.from_residual-in_err-found.result c.from_residual-in_err-found.ensures.1 in
    rw (p.1, p.2) (list_fault c.in_err-found.field-0.0 c.loop-node.lists.items c.loop-node.node (c.args.nodes - c.loop-node.node) (c.args.nodes - (c.loop-node.node + 1)) c.loop-node.at c.loop-node.rest.now (lists_at 0 c.args.nodes c.args.number c.args.text.now) (omega (arith, c.loop-node-test.true)) c.in_err-found.ensures c.loop-node.invariant.left)

pub loop-node-preserved : goal.loop-node-preserved
loop-node-preserved c =
    record {
      left = rw (c.in_ok-push.ensures.items, c.new.ensures)
          (list_more c.loop-node.lists.items c.loop-node.node (c.args.nodes - c.loop-node.node) (c.args.nodes - (c.loop-node.node + 1)) c.loop-node.at c.loop-node.rest.now (c.in_ok-found.found.receipts.items, c.in_ok-found.found.number, c.in_ok-found.found.rest.now) (lists_at 0 c.args.nodes c.args.number c.args.text.now) (omega (arith, c.loop-node-test.true)) c.in_ok-found.ensures c.loop-node.invariant.left);
      count = rw (c.in_ok-push.ensures.items, length-append c.loop-node.lists.items (c.new.result ∷ []), c.loop-node.invariant.count) refl;
    }

pub returns-clause-exact : goal.returns-clause-exact
returns-clause-exact c = lists_done c.loop-node.lists.items c.loop-node.node (c.args.nodes - c.loop-node.node) c.loop-node.at c.loop-node.rest.now (lists_at 0 c.args.nodes c.args.number c.args.text.now) (omega (arith, c.loop-node-test.false)) c.loop-node.invariant.left
