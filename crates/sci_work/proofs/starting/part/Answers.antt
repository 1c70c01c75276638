use Rattle.std.proofs.Common.{◌≡◌, ℕ, ◌+◌, ◌≤◌, ◌∙◌, List, IsOk, IfOk, vec_items, vec_len, vec_capacity, arith, ap, sym, subst}
use Rattle.std.proofs.lemmas.Result.{IfOk-from_err}
use Rattle.std.specs.Result.{OnOk}
use Rattle.std.specs.Vec.Iter.{into_iter_items, into_iter_len}
use mathlib.Core.Option.{some, some-ne-none}
use lib.ListN.{get_elem?}
use Rattle.sci_work.specs.Hands.{IsHandOf}
use Rattle.sci_work.specs.Programs.{IsShareOf}
use Rattle.sci_work.specs.Starts.{HasWrittenAll, IsPartDone}
use Rattle.sci_work.proofs.Residual.{passed_on}
use Rattle.sci_work.proofs.Seated.{at_first, at_more, count_of, gone_over}
use Rattle.sci_work.proofs.starting.part.Goals as goal

pub loop-one-init : goal.loop-one-init
loop-one-init g c =
    let made = c.in_ok-hands.ensures in let all = c.into_iter-one-iterator.ensures.into_iter_gives in
    record {
      rest = omega (arith, made.len.0, all.1);
      same = made.len.1 ∙ sym made.len.0;
      room = subst (λ (n : ℕ). n ≤ vec_capacity c.in_ok-hands.hands) c.len.ensures made.room.0;
      share_room = subst (λ (n : ℕ). n ≤ vec_capacity c.in_ok-hands.shares) c.len.ensures made.room.1;
      left = λ k x e.
          let h = c.requires.done k x (subst (λ (z : List _). get_elem? z k ≡ some x) all.0 e) in
          let at : k ≡ k + vec_len c.in_ok-hands.hands = omega (arith, made.len.0) in
          subst (λ (z : ℕ). IsPartDone c.args.recording c.args.lines.now c.args.program z (vec_items x.hand) x.share) at h;
      ended = λ k x e. c.requires.ended k x (subst (λ (z : List _). get_elem? z k ≡ some x) all.0 e);
      hands = λ k x e. absurd (some-ne-none x (sym (subst (λ (z : List _). get_elem? z k ≡ some x) made.empty.0 e)));
      end = λ all k x e. absurd (some-ne-none x (sym (subst (λ (z : List _). get_elem? z k ≡ some x) made.empty.0 e)));
      shares = λ k x e. absurd (some-ne-none x (sym (subst (λ (z : List _). get_elem? z k ≡ some x) made.empty.1 e)));
    }

pub unreachable-requires : goal.unreachable-requires
unreachable-requires g c =
    let here = (at_first (λ k one. IsOk one.share) (into_iter_items c.loop-one.one-iterator) (into_iter_items c.next.new.self) c.in-Some.one 0 c.in-Some.ensures.steps.0 c.loop-one.invariant.ended).0 in
    let ok = subst (λ r. IsOk r) c.in_default.is here in cc

pub loop-one-preserved : goal.loop-one-preserved
loop-one-preserved g c =
    let i = c.loop-one.invariant in let step = c.in-Some.ensures.steps in let one = c.in-Some.one in
    let more = c.push_reserved.ensures in let shared = c.push_reserved-in-loop-one.ensures in
    let here = count_of c.loop-one.hands in
    let there = sym i.same ∙ count_of c.loop-one.shares in
    let f = at_first (λ k one. IsPartDone c.args.recording c.args.lines.now c.args.program k (vec_items one.hand) one.share) (into_iter_items c.loop-one.one-iterator) (into_iter_items c.next.new.self) c.in-Some.one (vec_len c.loop-one.hands) step.0 i.left in
    record {
      rest = gone_over (vec_len c.loop-one.hands) _ (into_iter_len c.loop-one.one-iterator) _ (vec_len c.args.done) i.rest step.1 more.len;
      same = shared.len ∙ ap (λ (n : ℕ). n + 1) i.same ∙ sym more.len;
      room = subst (λ (n : ℕ). vec_len c.args.done ≤ n) (sym more.capacity) i.room;
      share_room = subst (λ (n : ℕ). vec_len c.args.done ≤ n) (sym shared.capacity) i.share_room;
      left = λ k x e. subst (λ (z : ℕ). IsPartDone c.args.recording c.args.lines.now c.args.program (k + z) (vec_items x.hand) x.share) (sym more.len) (f.1 k x e);
      ended = (at_first (λ k one. IsOk one.share) (into_iter_items c.loop-one.one-iterator) (into_iter_items c.next.new.self) c.in-Some.one 0 step.0 i.ended).1;
      hands = at_more (λ k hand. IsHandOf c.args.recording c.args.lines.now k (vec_items hand)) c.loop-one.hands.items c.push_reserved.new.self.items one.hand more.items i.hands
          (subst (λ (z : ℕ). IsHandOf c.args.recording c.args.lines.now z (vec_items one.hand)) here f.0.hand);
      end = λ all. at_more (λ k hand. HasWrittenAll c.args.program k (vec_items hand)) c.loop-one.hands.items c.push_reserved.new.self.items one.hand more.items (i.end all)
          (subst (λ (z : ℕ). HasWrittenAll c.args.program z (vec_items one.hand)) here (subst (λ r. OnOk r (HasWrittenAll c.args.program (vec_len c.loop-one.hands) (vec_items one.hand))) c.in-Ok.is (f.0.ends all)));
      shares = at_more (λ k share. IsShareOf c.args.program k (vec_items share)) c.loop-one.shares.items c.push_reserved-in-loop-one.new.self.items c.in-Ok.share shared.items i.shares
          (subst (λ (z : ℕ). IsShareOf c.args.program z (vec_items c.in-Ok.share)) there (subst (λ r. IfOk r (λ s. IsShareOf c.args.program (vec_len c.loop-one.hands) s.items)) c.in-Ok.is f.0.share_is));
    }

pub push_reserved-requires : goal.push_reserved-requires
push_reserved-requires g c = let i = c.loop-one.invariant in omega (arith, i.rest, i.room, c.in-Some.ensures.steps.1)

pub push_reserved-requires-in-loop-one : goal.push_reserved-requires-in-loop-one
push_reserved-requires-in-loop-one g c = let i = c.loop-one.invariant in omega (arith, i.rest, i.same, i.share_room, c.in-Some.ensures.steps.1)

pub returns : goal.returns
returns g c =
    let i = c.loop-one.invariant in let none = c.in-None.ensures.steps.0 in
    record { ok = record { hand_count = omega (arith, i.rest, none); hands_are = i.hands; end = i.end; share_count = omega (arith, i.rest, i.same, none); shares_are = i.shares }; err = tt }

pub returns-in_err-hands : goal.returns-in_err-hands
returns-in_err-hands g c = let r = c.from_residual in record { ok = IfOk-from_err r.result _ r.ensures.0; err = passed_on r.result _ _ r.ensures.1 c.in_err-hands.ensures.err }
