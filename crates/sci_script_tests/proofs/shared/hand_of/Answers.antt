use Rattle.std.proofs.Common.{rules, ◌≡◌, ℕ, ◌+◌, ◌<◌, ◌∙◌, ap, length, vec_items}
use Rattle.std.proofs.lemmas.List.{length_push, length-set}
use Rattle.sci_script.proofs.Dealt.{dealt_more, last_of, piled_less}
use Rattle.sci_script_tests.proofs.shared.hand_of.Goals as goal

pub loop-place-preserved : goal.loop-place-preserved
loop-place-preserved g c =
    let was = c.loop-place.invariant in
    let near : c.loop-place.place < length c.loop-place.piles.items = search rules in
    record {
      count = rw c.in-Ok.ensures.items (length_push c.loop-place.hand.items _ ∙ ap (λ n. n + 1) was.count);
      same = length-set c.loop-place.piles.items c.loop-place.place _ ∙ was.same;
      hand = rw c.in-Ok.ensures.items (dealt_more g.L.SharedLine.is_seat c.args.lines.now c.loop-place.hand.items c.in_ok-seat.seat c.loop-place.place was.count was.hand
          (λ l el. last_of g.L.SharedLine.is_seat vec_items c.args.lines.now c.loop-place.piles.items c.loop-place.place l c.index_mut.result.now c.pop.new.self.items c.in_ok-seat.seat near c.index_mut.ensures.value c.in_ok-seat.ensures.items was.piles el));
      piles = piled_less g.L.SharedLine.is_seat vec_items c.args.lines.now c.loop-place.piles.items c.loop-place.place c.index_mut.result.now c.pop.new.self _ near c.index_mut.ensures.value c.in_ok-seat.ensures.items was.piles;
    }
