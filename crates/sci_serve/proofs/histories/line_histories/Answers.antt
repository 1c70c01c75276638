use Rattle.std.proofs.Common.{◌≡◌, ◌≤◌, ◌++◌, ℕ, get_or, map, drop, vec_capacity, vec_len, arith, refl, subst, sym}
use Rattle.std.specs.Vec.Iter.{into_iter_items}
use Rattle.sci_work.specs.Ended.{lists_in}
use Rattle.sci_serve.specs.Histories.{histories_from}
use Rattle.sci_serve.proofs.LineHistories.{told, told_all}
use Rattle.sci_serve.proofs.histories.line_histories.Goals as goal

pub loop-lists-init : goal.loop-lists-init
loop-lists-init c = record {
  rest = omega (arith, c.in_ok-histories.ensures.len, c.into_iter-lists-iterator.ensures.into_iter_gives.1, c.requires, c.args.memory.lines.ok, c.args.memory.receipts.ok);
  room = subst (λ (z : ℕ). z ≤ vec_capacity c.in_ok-histories.histories) c.len.ensures c.in_ok-histories.ensures.capacity;
  each = rw (c.in_ok-histories.ensures.items, c.in_ok-histories.ensures.len, c.into_iter-lists-iterator.ensures.into_iter_gives.0) refl;
}

pub loop-lists-preserved : goal.loop-lists-preserved
loop-lists-preserved c =
    let i = c.loop-lists.invariant in let step = c.in-Some.ensures.steps in let more = c.push_reserved.ensures in
    let lines = c.args.memory.lines.items in let rest = into_iter_items c.next.new.self in
    let all = histories_from lines (map lists_in c.args.memory.receipts.items) in
    record {
      rest = omega (arith, i.rest, step.1, more.len);
      room = subst (λ (z : ℕ). vec_len c.args.memory.lines ≤ z) (sym more.capacity) i.room;
      each = subst (λ (z : ℕ). c.push_reserved.new.self.items ++ histories_from (drop z lines) (map lists_in rest) ≡ all) (sym more.len)
          (told lines (vec_len c.loop-lists.histories) c.index.result.now c.loop-lists.histories.items c.push_reserved.new.self.items c.in_ok-history.history (into_iter_items c.loop-lists.lists-iterator) rest c.in-Some.lists all
          (omega (arith, i.rest, step.1, c.args.memory.lines.ok)) (subst (λ (n : ℕ). c.index.result.now ≡ get_or lines n c.index.result.now) c.len-line.ensures c.index.ensures)
          more.items c.in_ok-history.ensures step.0 i.each);
    }

pub returns : goal.returns
returns c =
    let i = c.loop-lists.invariant in
    told_all (drop (vec_len c.loop-lists.histories) c.args.memory.lines.items) c.loop-lists.histories.items (into_iter_items c.loop-lists.lists-iterator) (histories_from c.args.memory.lines.items (map lists_in c.args.memory.receipts.items))
    (omega (arith, c.in-None.ensures.steps.0, c.loop-lists.lists-iterator.rest.ok.0)) i.each
