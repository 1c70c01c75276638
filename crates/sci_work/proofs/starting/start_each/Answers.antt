use Rattle.std.proofs.Common.{rules, ◌≡◌, ℕ, ◌+◌, ◌<◌, ◌≤◌, ◌∙◌, List, arith, ap, refl, sym, subst, vec_items, vec_len}
use Rattle.std.specs.Vec.Iter.{into_iter_items, into_iter_len}
use mathlib.Core.Option.{some}
use lib.ListN.{get_elem?}
use Rattle.sci_work.specs.declared.recording.Recording.{Recording}
use Rattle.sci_work.specs.Hands.{HasWrittenNothing, IsHandOf}
use Rattle.sci_work.proofs.Seated.{at_first, count_of, gone_over, or_more}
use Rattle.sci_work.proofs.starting.start_each.Goals as goal

pub loop-hand-init : goal.loop-hand-init
loop-hand-init g c = record {
  rest = omega (arith, c.into_iter-hand-iterator.ensures.into_iter_gives.1);
  ready = λ k h e.
      let w = c.requires.parts.hands_are k h (subst (λ (z : List _). get_elem? z k ≡ some h) c.into_iter-hand-iterator.ensures.into_iter_gives.0 e) in
      let at : k ≡ k + 0 = omega arith in
      subst (λ (z : ℕ). IsHandOf Recording.All c.args.lines.now z (vec_items h)) at w;
  len = c.requires.room.0;
  room = c.requires.room.1;
  begin = λ all k h e.
      let w = c.requires.parts.begin all k h (subst (λ (z : List _). get_elem? z k ≡ some h) c.into_iter-hand-iterator.ensures.into_iter_gives.0 e) in w;
  promised = λ k d low. absurd (omega (arith, low, c.requires.room.0));
}

pub spawn_with-started-requires-clause-runs : goal.spawn_with-started-requires-clause-runs
spawn_with-started-requires-clause-runs g c κs within =
    let was = c.loop-hand.invariant in let step = c.in-Some.ensures.steps in
    let f = at_first (λ k hand. IsHandOf Recording.All c.args.lines.now k (vec_items hand)) (into_iter_items c.loop-hand.hand-iterator) (into_iter_items c.next.new.self) c.in-Some.hand c.loop-hand.number step.0 was.ready in
    let b = λ (all : c.args.recording ≡ Recording.All). at_first (λ k hand. HasWrittenNothing (vec_items hand)) (into_iter_items c.loop-hand.hand-iterator) (into_iter_items c.next.new.self) c.in-Some.hand c.loop-hand.number step.0 (was.begin all) in
    let below : c.loop-hand.number < vec_len c.args.hands = omega (arith, was.rest, step.1) in (
      record {
        lines_are = c.requires.parts.lines_are;
        hand = f.0;
        begins = λ all. (b all).0;
        suits = λ l at. c.requires.parts.suits c.loop-hand.number l below at;
      },
      search rules,
    )

pub loop-hand-preserved : goal.loop-hand-preserved
loop-hand-preserved g c =
    let was = c.loop-hand.invariant in let step = c.in-Some.ensures.steps in let more = c.push_reserved.ensures in
    let handles = c.loop-hand.handles in let handle = c.in-Ok.handle in let p = c.in-Ok.ensures.ok in
    let f = at_first (λ k hand. IsHandOf Recording.All c.args.lines.now k (vec_items hand)) (into_iter_items c.loop-hand.hand-iterator) (into_iter_items c.next.new.self) c.in-Some.hand c.loop-hand.number step.0 was.ready in
    record {
      rest = gone_over c.loop-hand.number _ (into_iter_len c.loop-hand.hand-iterator) _ (vec_len c.args.hands) was.rest step.1 refl;
      ready = f.1;
      begin = λ all. (at_first (λ k hand. HasWrittenNothing (vec_items hand)) (into_iter_items c.loop-hand.hand-iterator) (into_iter_items c.next.new.self) c.in-Some.hand c.loop-hand.number step.0 (was.begin all)).1;
      len = more.len ∙ ap (λ (n : ℕ). n + 1) was.len;
      room = subst (λ (n : ℕ). vec_len c.args.hands ≤ n) (sym more.capacity) was.room;
      promised = λ k d low. or_more (λ i h. (h.promise.lines.now ≡ c.args.lines.now) × (h.promise.program ≡ c.args.program) × (h.promise.number ≡ i) × (h.promise.recording ≡ c.args.recording)) handles.items c.push_reserved.new.self.items handle more.items
          (λ i x less. was.promised i x (omega (arith, less, handles.ok))) (ap (λ x. x.lines.now) p, ap (λ x. x.program) p, ap (λ x. x.number) p ∙ (sym was.len ∙ count_of handles), ap (λ x. x.recording) p) k d (omega (arith, low, c.push_reserved.new.self.ok));
    }

pub push_reserved-requires : goal.push_reserved-requires
push_reserved-requires g c = let was = c.loop-hand.invariant in omega (arith, was.len, was.rest, was.room, c.in-Some.ensures.steps.1)

pub returns : goal.returns
returns g c = let was = c.loop-hand.invariant in record { few = omega (arith, was.len, was.rest); each = was.promised }

pub returns-in_default : goal.returns-in_default
returns-in_default g c = let was = c.loop-hand.invariant in record { few = omega (arith, was.len, was.rest); each = was.promised }
