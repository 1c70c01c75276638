use Rattle.std.proofs.Common.{rules, ◌≡◌, ℕ, ◌+◌, ◌≤◌, get_or, vec_items, vec_len, arith, refl, sym, subst}
use Rattle.std.specs.Vec.Iter.{into_iter_items, into_iter_len}
use Rattle.std.specs.PromisedHandle.{KeepsAt}
use Rattle.sci_work.proofs.Seated.{count_of, gone_over, or_more}
use Rattle.sci_work.proofs.starting.joined.Goals as goal

-- the handle that is joined stood first among the rest, so it is the one at the next place
pub loop-handle-preserved : goal.loop-handle-preserved
loop-handle-preserved g c =
    let was = c.loop-handle.invariant in let step = c.in-Some.ensures.steps in let all = c.loop-handle.all in let done = vec_len all in
    let more = c.push_reserved.ensures in let handle = c.in-Some.handle in
    let first = c.into_iter-handle-iterator.result in let handles = into_iter_items first in let Kept = KeepsAt g.P.Promise handles in
    let next : handle ≡ get_or handles done handle = let h = was.1 0 handle in grind rules in
    let here : Kept done c.join.result = record { handle = handle; handle_is = next; kept = c.join.ensures } in (
      gone_over done _ (into_iter_len c.loop-handle.handle-iterator) _ (into_iter_len first) was.0 step.1 more.len,
      (λ k d below. let h = was.1 (k + 1) d in grind rules),
      (λ k x below. or_more Kept all.items c.push_reserved.new.self.items c.join.result more.items
          (λ i d low. was.2 i d (omega (arith, low, all.ok))) (subst (λ (n : ℕ). Kept n c.join.result) (count_of all) here) k x (omega (arith, below, c.push_reserved.new.self.ok))),
      subst (λ (n : ℕ). into_iter_len first ≤ n) (sym more.capacity) was.3,
    )

pub returns : goal.returns
returns g c =
    let was = c.loop-handle.invariant in let began = c.into_iter-handle-iterator.ensures.into_iter_gives in
    let whole : vec_len c.loop-handle.all ≡ vec_len c.args.handles = omega (arith, was.0, c.in-None.ensures.steps.0, began.1) in
    record { len = whole; each = (λ i x below. (refl, subst (λ hs. KeepsAt g.P.Promise hs i (get_or (vec_items c.loop-handle.all) i x)) began.0 (was.2 i x (omega arith)))) }
