use Rattle.std.proofs.Common.{◌≡◌, ◌≤◌, ℕ, List, [], length, vec_items, arith, sym, subst}
use mathlib.Core.Option.{some, some-ne-none}
use lib.ListN.{get_elem?}
use Rattle.sci_work.specs.Hands.{IsNewHand}
use Rattle.sci_work.proofs.Dealing.{no_new_hand}
use Rattle.sci_work.proofs.Seated.{at_more}
use Rattle.sci_work.proofs.lines.empty_hands.Goals as goal

pub loop-init : goal.loop-init
loop-init g c = record {
  len = c.in_ok-hands.ensures.len;
  room = omega (arith, c.in_ok-hands.ensures.capacity, c.from.ensures);
  each = λ k x e. absurd (some-ne-none x (sym (subst (λ (z : List _). get_elem? z k ≡ some x) c.in_ok-hands.ensures.items e)));
}

pub loop-preserved : goal.loop-preserved
loop-preserved g c =
    let i = c.loop.invariant in let more = c.push_reserved.ensures in
    record {
      len = omega (arith, i.len, more.len);
      room = subst (λ (n : ℕ). c.args.nodes ≤ n) (sym more.capacity) i.room;
      each = at_more (λ k hand. IsNewHand [] k (vec_items hand)) c.loop.hands.items c.push_reserved.new.self.items c.new.result more.items i.each
          (no_new_hand (length c.loop.hands.items) c.new.result.items c.new.ensures.items);
    }
