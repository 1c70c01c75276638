use Rattle.std.proofs.Common.{◌≡◌, ◌∷◌, ℕ, ◌+◌, List, [], length, vec_items, vec_len, arith, refl, ap, sym, subst, ◌∙◌, ◌++◌}
use Rattle.std.specs.Vec.Iter.{into_iter_items}
use mathlib.Core.Option.{some, some-ne-none}
use lib.ListN.{get_elem?}
use Rattle.sci_fine.proofs.Elements.{no_length}
use Rattle.sci_work.specs.declared.recording.Recording.{Recording}
use Rattle.sci_work.specs.Hands.{IsHandOf, IsIdleSeat}
use Rattle.sci_work.proofs.Seated.{at_first, at_more, one_hand}
use Rattle.sci_work.proofs.Dealing.{each_alone, held, hold_all, hold_more}
use Rattle.sci_work.proofs.seating.dealt.Goals as goal

pub loop-seat-init : goal.loop-seat-init
loop-seat-init g c = record {
  rest = omega (arith, c.new-hands.ensures.len, c.into_iter-seat-iterator.ensures.into_iter_gives.1);
  left = λ k s e.
      let h = c.requires k s (subst (λ (z : List _). get_elem? z k ≡ some s) c.into_iter-seat-iterator.ensures.into_iter_gives.0 e) in
      let at : k ≡ k + vec_len c.new-hands.result = omega (arith, c.new-hands.ensures.len) in
      subst (λ (z : ℕ). IsIdleSeat Recording.All z c.args.line.now s) at h;
  each = λ k x e. absurd (some-ne-none x (sym (subst (λ (z : List _). get_elem? z k ≡ some x) c.new-hands.ensures.items e)));
  hold = ap (λ (z : List _). held z ++ each_alone (into_iter_items c.into_iter-seat-iterator.result)) c.new-hands.ensures.items ∙ ap (λ (z : List _). each_alone z) c.into_iter-seat-iterator.ensures.into_iter_gives.0;
}

pub loop-seat-preserved : goal.loop-seat-preserved
loop-seat-preserved g c =
    let i = c.loop-seat.invariant in let step = c.in-Some.ensures.steps in let more = c.in-Ok-push.ensures in
    let here : vec_len c.loop-seat.hands ≡ length c.loop-seat.hands.items = omega (arith, c.loop-seat.hands.ok) in
    let f = at_first (λ k s. IsIdleSeat Recording.All k c.args.line.now s) (into_iter_items c.loop-seat.seat-iterator) (into_iter_items c.next.new.self) c.in-Some.seat (vec_len c.loop-seat.hands) step.0 i.left in
    record {
      rest = omega (arith, i.rest, step.1, more.len);
      left = λ k s e. subst (λ (z : ℕ). IsIdleSeat Recording.All (k + z) c.args.line.now s) (sym more.len) (f.1 k s e);
      each = at_more (λ k hand. IsHandOf Recording.All (c.args.line.now ∷ []) k (vec_items hand)) c.loop-seat.hands.items c.push.new.self.items c.in-Ok.hand more.items i.each
          (one_hand c.args.line.now (length c.loop-seat.hands.items) c.in-Some.seat c.in-Ok.hand.items c.in-Ok.ensures.ok (subst (λ (z : ℕ). IsIdleSeat Recording.All z c.args.line.now c.in-Some.seat) here f.0));
      hold = hold_more c.loop-seat.hands.items c.push.new.self.items c.in-Ok.hand (into_iter_items c.loop-seat.seat-iterator) (into_iter_items c.next.new.self) c.args.seats.items c.in-Some.seat more.items c.in-Ok.ensures.ok step.0 i.hold;
    }

pub returns : goal.returns
returns g c = let i = c.loop-seat.invariant in record { err = tt; len = omega (arith, i.rest, c.in-None.ensures.steps.0); each = i.each; hold = hold_all c.loop-seat.hands.items (into_iter_items c.loop-seat.seat-iterator) c.args.seats.items (no_length _ (omega (arith, c.in-None.ensures.steps.0, c.loop-seat.seat-iterator.rest.ok.0))) i.hold }

pub returns-in_default : goal.returns-in_default
returns-in_default g c = record { err = refl; len = tt; each = tt; hold = tt }

pub returns-in_default-push : goal.returns-in_default-push
returns-in_default-push g c = record { err = refl; len = tt; each = tt; hold = tt }
