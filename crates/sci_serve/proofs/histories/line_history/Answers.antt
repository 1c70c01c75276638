use Rattle.std.proofs.Common.{◌≤◌, ◌++◌, ◌∙◌, ℕ, List, map, vec_capacity, vec_len, arith, ap, subst, sym}
use Rattle.std.specs.Global.{Vec}
use Rattle.std.specs.Vec.Iter.{into_iter_items}
use Rattle.sci_core.specs.declared.receipts.Receipt.{Receipt}
use Rattle.sci_work.specs.Ended.{lists_in}
use Rattle.sci_serve.proofs.LineHistories.{made, moved, moved_all}
use Rattle.sci_serve.proofs.histories.line_history.Goals as goal

pub loop-list-init : goal.loop-list-init
loop-list-init c =
    let items = λ (v : Vec Receipt). v.items in
    record {
      rest = omega (arith, c.in_ok-nodes.ensures.len, c.into_iter-list-iterator.ensures.into_iter_gives.1);
      room = subst (λ (z : ℕ). z ≤ vec_capacity c.in_ok-nodes.nodes) c.len.ensures c.in_ok-nodes.ensures.capacity;
      each = ap (λ (z : List (List Receipt)). z ++ map items (into_iter_items c.into_iter-list-iterator.result)) c.in_ok-nodes.ensures.items
          ∙ ap (λ (z : List (Vec Receipt)). map items z) c.into_iter-list-iterator.ensures.into_iter_gives.0;
    }

pub push_reserved-requires : goal.push_reserved-requires
push_reserved-requires c = let i = c.loop-list.invariant in omega (arith, i.rest, i.room, c.in-Some.ensures.steps.1)

pub loop-list-preserved : goal.loop-list-preserved
loop-list-preserved c =
    let i = c.loop-list.invariant in let step = c.in-Some.ensures.steps in let more = c.push_reserved.ensures in
    record {
      rest = omega (arith, i.rest, step.1, more.len);
      room = subst (λ (z : ℕ). vec_len c.args.lists ≤ z) (sym more.capacity) i.room;
      each = moved (λ (v : Vec Receipt). v.items) c.loop-list.nodes.items c.push_reserved.new.self.items c.new.result (into_iter_items c.loop-list.list-iterator) (into_iter_items c.next.new.self) c.in-Some.list (lists_in c.args.lists)
          more.items c.new.ensures step.0 i.each;
    }

pub returns : goal.returns
returns c =
    let i = c.loop-list.invariant in
    made c.args.closed.now c.value.result c.loop-list.nodes.items (lists_in c.args.lists) c.value.ensures.value
    (moved_all (λ (v : Vec Receipt). v.items) c.loop-list.nodes.items (into_iter_items c.loop-list.list-iterator) (lists_in c.args.lists)
    (omega (arith, c.in-None.ensures.steps.0, c.loop-list.list-iterator.rest.ok.0)) i.each)
