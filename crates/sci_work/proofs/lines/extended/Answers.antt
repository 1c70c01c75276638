use Rattle.std.proofs.Common.{◌≡◌, ◌++◌, ◌∷◌, ◌∙◌, ℕ, ◌+◌, ◌≤◌, List, [], length, vec_capacity, vec_items, vec_len, arith, refl, sym, subst}
use Rattle.std.proofs.lemmas.Result.{IfOk-from_err}
use Rattle.std.specs.Vec.Iter.{into_iter_items}
use mathlib.Core.Option.{some, some-ne-none}
use lib.ListN.{get_elem?}
use Rattle.sci_work.specs.Hands.{IsNewHand, IsNewSeat}
use Rattle.sci_work.proofs.Counts.{both_less, from_none, moved_one, none_done}
use Rattle.sci_work.proofs.Dealing.{new_hand_more}
use Rattle.sci_work.proofs.Residual.{passed_on}
use Rattle.sci_work.proofs.Seated.{at_first, at_more}
use Rattle.sci_work.proofs.lines.extended.Goals as goal

pub loop-one-init : goal.loop-one-init
loop-one-init g c = record {
  rest = none_done (vec_len c.in_ok-all.all) _ _ c.in_ok-all.ensures.len c.into_iter-one-iterator.ensures.into_iter_gives.1;
  same = c.into_iter-rest.ensures.len ∙ c.requires.count ∙ sym c.into_iter-one-iterator.ensures.into_iter_gives.1;
  room = subst (λ (z : ℕ). z ≤ vec_capacity c.in_ok-all.all) c.len.ensures c.in_ok-all.ensures.capacity;
  hands = λ k x e.
      let h = c.requires.hands k x (subst (λ (z : List _). get_elem? z k ≡ some x) c.into_iter-one-iterator.ensures.into_iter_gives.0 e) in
      subst (λ (z : ℕ). IsNewHand c.args.lines.now z (vec_items x)) (from_none k (vec_len c.in_ok-all.all) c.in_ok-all.ensures.len) h;
  seats = λ k s e.
      let h = c.requires.seats k s (subst (λ (z : List _). get_elem? z k ≡ some s) c.into_iter-rest.ensures.rest e) in
      let at = from_none k (vec_len c.in_ok-all.all) c.in_ok-all.ensures.len in
      subst (λ (z : ℕ). IsNewSeat z c.args.line.now s) at h;
  each = λ k x e. absurd (some-ne-none x (sym (subst (λ (z : List _). get_elem? z k ≡ some x) c.in_ok-all.ensures.items e)));
}

pub loop-one-preserved : goal.loop-one-preserved
loop-one-preserved g c =
    let i = c.loop-one.invariant in let step = c.in-Some.ensures.steps in let more = c.push_reserved.ensures in let lines = c.args.lines.now in let line = c.args.line.now in
    let here : vec_len c.loop-one.all ≡ length c.loop-one.all.items = omega (arith, c.loop-one.all.ok) in
    let f = at_first (λ k hand. IsNewHand lines k (vec_items hand)) (into_iter_items c.loop-one.one-iterator) (into_iter_items c.next.new.self) c.in-Some.one (vec_len c.loop-one.all) step.0 i.hands in
    let s = at_first (λ k s. IsNewSeat k line s) (into_iter_items c.loop-one.rest) (into_iter_items c.next-in-loop-one.new.self) c.in-Some-next.seat (vec_len c.loop-one.all) c.in-Some-next.ensures.items i.seats in
    record {
      rest = moved_one _ _ _ _ _ i.rest step.1 more.len;
      same = both_less _ _ _ _ i.same c.in-Some-next.ensures.cases.1 step.1;
      room = subst (λ (z : ℕ). vec_len c.args.hands ≤ z) (sym more.capacity) i.room;
      hands = λ k x e. subst (λ (z : ℕ). IsNewHand lines (k + z) (vec_items x)) (sym more.len) (f.1 k x e);
      seats = λ k x e. subst (λ (z : ℕ). IsNewSeat (k + z) line x) (sym more.len) (s.1 k x e);
      each = at_more (λ k hand. IsNewHand (lines ++ line ∷ []) k (vec_items hand)) c.loop-one.all.items c.push_reserved.new.self.items c.push.new.self more.items i.each
          (new_hand_more lines line (length c.loop-one.all.items) c.in-Some.one.items c.push.new.self.items c.in-Some-next.seat c.in-Ok.ensures.items
          (subst (λ (z : ℕ). IsNewHand lines z (vec_items c.in-Some.one)) here f.0) (subst (λ (z : ℕ). IsNewSeat z line c.in-Some-next.seat) here s.0));
    }

pub push_reserved-requires : goal.push_reserved-requires
push_reserved-requires g c = let i = c.loop-one.invariant in omega (arith, i.rest, i.room, c.in-Some.ensures.steps.1)

pub returns : goal.returns
returns g c = let i = c.loop-one.invariant in record { len = omega (arith, i.rest, c.in-None.ensures.steps.0); each = i.each; err = tt }

pub returns-in_default-push : goal.returns-in_default-push
returns-in_default-push g c = record { len = tt; each = tt; err = refl }

pub returns-in_err-all : goal.returns-in_err-all
returns-in_err-all g c = let r = c.from_residual in record { len = IfOk-from_err r.result _ r.ensures.0; each = IfOk-from_err r.result _ r.ensures.0; err = passed_on r.result _ _ r.ensures.1 refl }
