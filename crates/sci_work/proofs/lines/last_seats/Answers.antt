use Rattle.std.proofs.Common.{◌≡◌, ◌++◌, ◌∷◌, ◌∙◌, ℕ, ◌+◌, ◌<◌, ◌≤◌, true, false, List, [], length, vec_capacity, vec_items, vec_len, arith, ap, refl, sym, subst, length-append}
use Rattle.std.proofs.lemmas.Result.{IfOk-from_err}
use Rattle.std.specs.Vec.Iter.{into_iter_items}
use mathlib.Core.Option.{some, some-ne-none}
use lib.ListN.{get_elem?}
use Rattle.atomic_table.proofs.Lists.{at_last, at_longer}
use Rattle.sci_core.specs.declared.pending.Pending.{Pending}
use Rattle.sci_fine.proofs.Elements.{each_more}
use Rattle.sci_fine.specs.Kept.{HasKeptAll}
use Rattle.sci_fine.specs.Seats.{IsSeatOf}
use Rattle.sci_work.specs.declared.recording.Recording.{Recording}
use Rattle.sci_work.specs.Hands.{IsFewer, IsHandOf, IsSeatIn}
use Rattle.sci_work.proofs.Counts.{from_none, moved_one, none_done}
use Rattle.sci_work.proofs.Dealing.{hand_less}
use Rattle.sci_work.proofs.Residual.{passed_on}
use Rattle.sci_work.proofs.Seated.{at_first, at_more}
use Rattle.sci_work.proofs.lines.last_seats.Goals as goal

pub loop-one-init : goal.loop-one-init
loop-one-init g c = record {
  rest = none_done (vec_len c.in_ok-all.all) _ _ c.in_ok-all.ensures.len c.into_iter-one-iterator.ensures.into_iter_gives.1;
  same = c.in_ok-seats.ensures.len ∙ sym c.in_ok-all.ensures.len;
  room = subst (λ (z : ℕ). z ≤ vec_capacity c.in_ok-all.all) c.len-count.ensures c.in_ok-all.ensures.capacity;
  seat_room = subst (λ (z : ℕ). z ≤ vec_capacity c.in_ok-seats.seats) c.len-count.ensures c.in_ok-seats.ensures.capacity;
  left = λ k x e.
      let h = c.requires k x (subst (λ (z : List _). get_elem? z k ≡ some x) c.into_iter-one-iterator.ensures.into_iter_gives.0 e) in
      subst (λ (z : ℕ). IsHandOf c.args.recording (c.args.lines.now ++ c.args.line.now ∷ []) z (vec_items x)) (from_none k (vec_len c.in_ok-all.all) c.in_ok-all.ensures.len) h;
  hands = λ k x e. absurd (some-ne-none x (sym (subst (λ (z : List _). get_elem? z k ≡ some x) c.in_ok-all.ensures.items e)));
  seats = λ k x e. absurd (some-ne-none x (sym (subst (λ (z : List _). get_elem? z k ≡ some x) c.in_ok-seats.ensures.items e)));
  at = λ k x e.
      let h = subst (λ (z : List _). get_elem? z k ≡ some x) c.into_iter-one-iterator.ensures.into_iter_gives.0 e in
      subst (λ (z : ℕ). get_elem? (vec_items c.args.hands) z ≡ some x) (from_none k (vec_len c.in_ok-all.all) c.in_ok-all.ensures.len) h;
  fewer = λ k x e. absurd (some-ne-none x (sym (subst (λ (z : List _). get_elem? z k ≡ some x) c.in_ok-all.ensures.items e)));
  last = λ k x e. absurd (some-ne-none x (sym (subst (λ (z : List _). get_elem? z k ≡ some x) c.in_ok-seats.ensures.items e)));
}

pub unreachable-requires : goal.unreachable-requires
unreachable-requires g c =
    let i = c.loop-one.invariant in let step = c.in-Some.ensures.steps in let lines = c.args.lines.now in let line = c.args.line.now in
    let f = at_first (λ k hand. IsHandOf c.args.recording (lines ++ line ∷ []) k (vec_items hand)) (into_iter_items c.loop-one.one-iterator) (into_iter_items c.next.new.self) c.in-Some.one (vec_len c.loop-one.all) step.0 i.left in
    let n : length c.in-Some.one.items ≡ length (lines ++ line ∷ []) = f.0.count in
    let big : 0 < vec_len c.in-Some.one = omega (arith, n, length-append lines (line ∷ []), c.in-Some.one.ok) in
    let e : false ≡ true = c.in_default.ensures.variant.1 big in cc

pub loop-one-preserved : goal.loop-one-preserved
loop-one-preserved g c =
    let i = c.loop-one.invariant in let step = c.in-Some.ensures.steps in let lines = c.args.lines.now in let line = c.args.line.now in
    let more = c.push_reserved-in-loop-one.ensures in let put = c.push_reserved.ensures in
    let here : vec_len c.loop-one.all ≡ length c.loop-one.all.items = omega (arith, c.loop-one.all.ok) in
    let f = at_first (λ k hand. IsHandOf c.args.recording (lines ++ line ∷ []) k (vec_items hand)) (into_iter_items c.loop-one.one-iterator) (into_iter_items c.next.new.self) c.in-Some.one (vec_len c.loop-one.all) step.0 i.left in
    let hands = vec_items c.args.hands in let one = c.in-Some.one in let seat = c.in-Some-pop.seat in let popped = c.in-Some-pop.ensures.items in
    let there : vec_len c.loop-one.all ≡ length c.loop-one.seats.items = omega (arith, i.same, c.loop-one.seats.ok) in
    let stood = at_first (λ k x. get_elem? hands k ≡ some x) (into_iter_items c.loop-one.one-iterator) (into_iter_items c.next.new.self) one (vec_len c.loop-one.all) step.0 i.at in
    let s = hand_less lines line (vec_len c.loop-one.all) c.in-Some.one.items c.pop.new.self.items c.in-Some-pop.seat c.in-Some-pop.ensures.items f.0 in
    record {
      rest = moved_one _ _ _ _ _ i.rest step.1 more.len;
      same = put.len ∙ ap (λ (z : ℕ). z + 1) i.same ∙ sym more.len;
      room = subst (λ (z : ℕ). vec_len c.args.hands ≤ z) (sym more.capacity) i.room;
      seat_room = subst (λ (z : ℕ). vec_len c.args.hands ≤ z) (sym put.capacity) i.seat_room;
      left = λ k x e. subst (λ (z : ℕ). IsHandOf c.args.recording (lines ++ line ∷ []) (k + z) (vec_items x)) (sym more.len) (f.1 k x e);
      hands = at_more (λ k hand. IsHandOf c.args.recording lines k (vec_items hand)) c.loop-one.all.items c.push_reserved-in-loop-one.new.self.items c.pop.new.self more.items i.hands
          (subst (λ (z : ℕ). IsHandOf c.args.recording lines z (vec_items c.pop.new.self)) here s.0);
      seats = subst (λ (z : List _). (k : ℕ) (x : _) → get_elem? z k ≡ some x → IsSeatOf line x × (x.standing.pending ≡ Pending.Idle) × (c.args.recording ≡ Recording.All → HasKeptAll x)) (sym put.items)
          (each_more (λ x. IsSeatOf line x × (x.standing.pending ≡ Pending.Idle) × (c.args.recording ≡ Recording.All → HasKeptAll x)) c.loop-one.seats.items c.in-Some-pop.seat i.seats (s.1.of, s.1.idle, s.1.kept));
      at = λ k x e. subst (λ (z : ℕ). get_elem? hands (k + z) ≡ some x) (sym more.len) (stood.1 k x e);
      fewer = at_more (IsFewer hands) c.loop-one.all.items c.push_reserved-in-loop-one.new.self.items c.pop.new.self more.items i.fewer
          (one, subst (λ (z : ℕ). get_elem? hands z ≡ some one) here stood.0, λ k x e. subst (λ (z : List _). get_elem? z k ≡ some x) (sym popped) (at_longer c.pop.new.self.items (seat ∷ []) k x e));
      last = at_more (IsSeatIn hands (length lines)) c.loop-one.seats.items c.push_reserved.new.self.items seat put.items i.last
          (one, subst (λ (z : ℕ). get_elem? hands z ≡ some one) there stood.0, subst (λ (z : List _). get_elem? z (length lines) ≡ some seat) (sym popped) (at_last c.pop.new.self.items seat (length lines) s.0.count));
    }

pub push_reserved-requires : goal.push_reserved-requires
push_reserved-requires g c = let i = c.loop-one.invariant in omega (arith, i.rest, i.same, i.seat_room, c.in-Some.ensures.steps.1)

pub push_reserved-requires-in-loop-one : goal.push_reserved-requires-in-loop-one
push_reserved-requires-in-loop-one g c = let i = c.loop-one.invariant in omega (arith, i.rest, i.room, c.in-Some.ensures.steps.1)

pub returns : goal.returns
returns g c = let i = c.loop-one.invariant in record { hands = i.hands; seats = i.seats; fewer = i.fewer; last = i.last; err = tt }

pub returns-in_err-all : goal.returns-in_err-all
returns-in_err-all g c = let r = c.from_residual in record { hands = IfOk-from_err r.result _ r.ensures.0; seats = IfOk-from_err r.result _ r.ensures.0; fewer = IfOk-from_err r.result _ r.ensures.0; last = IfOk-from_err r.result _ r.ensures.0; err = passed_on r.result _ _ r.ensures.1 refl }

pub returns-in_err-seats : goal.returns-in_err-seats
returns-in_err-seats g c = let r = c.from_residual-in_err-seats in record { hands = IfOk-from_err r.result _ r.ensures.0; seats = IfOk-from_err r.result _ r.ensures.0; fewer = IfOk-from_err r.result _ r.ensures.0; last = IfOk-from_err r.result _ r.ensures.0; err = passed_on r.result _ _ r.ensures.1 refl }
