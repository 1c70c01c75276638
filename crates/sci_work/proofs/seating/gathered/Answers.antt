use Rattle.std.proofs.Common.{◌≡◌, ◌∷◌, ◌++◌, ℕ, ◌+◌, List, [], vec_items, vec_len, arith, sym, subst, ◌∙◌, ap}
use Rattle.std.specs.Vec.Iter.{into_iter_items}
use mathlib.Core.Option.{some, some-ne-none}
use lib.ListN.{get_elem?}
use Rattle.sci_fine.proofs.Elements.{each_more, no_length}
use Rattle.sci_core.specs.declared.pending.Pending.{Pending}
use Rattle.sci_fine.specs.Kept.{HasKeptAll}
use Rattle.sci_fine.specs.Seats.{IsSeatOf}
use Rattle.sci_work.specs.declared.recording.Recording.{Recording}
use Rattle.sci_work.specs.Hands.{IsHandOf}
use Rattle.sci_work.proofs.Dealing.{each_alone, held, held_all, held_more}
use Rattle.sci_work.proofs.Seated.{at_first, hand_one}
use Rattle.sci_work.proofs.seating.gathered.Goals as goal

pub loop-hand-init : goal.loop-hand-init
loop-hand-init g c = record {
  left = λ k x e.
      let h = c.requires k x (subst (λ (z : List _). get_elem? z k ≡ some x) c.into_iter-hand-iterator.ensures.into_iter_gives.0 e) in
      let at : k ≡ k + vec_len c.new-seats.result = omega (arith, c.new-seats.ensures.len) in
      subst (λ (z : ℕ). IsHandOf Recording.All (c.args.line.now ∷ []) z (vec_items x)) at h;
  all = λ k x e. absurd (some-ne-none x (sym (subst (λ (z : List _). get_elem? z k ≡ some x) c.new-seats.ensures.items e)));
  held = ap (λ (z : List _). held z) (sym c.into_iter-hand-iterator.ensures.into_iter_gives.0) ∙ ap (λ (z : List _). each_alone z ++ held (into_iter_items c.into_iter-hand-iterator.result)) (sym c.new-seats.ensures.items);
}

pub seat_of-requires : goal.seat_of-requires
seat_of-requires g c =
    let i = c.loop-hand.invariant in let step = c.in-Some.ensures.steps in
    let f = at_first (λ k hand. IsHandOf Recording.All (c.args.line.now ∷ []) k (vec_items hand)) (into_iter_items c.loop-hand.hand-iterator) (into_iter_items c.next.new.self) c.in-Some.hand (vec_len c.loop-hand.seats) step.0 i.left in
    let h = f.0.count in
    omega (arith, h, c.in-Some.hand.ok)

pub loop-hand-preserved : goal.loop-hand-preserved
loop-hand-preserved g c =
    let i = c.loop-hand.invariant in let step = c.in-Some.ensures.steps in let more = c.in-Ok.ensures in
    let f = at_first (λ k hand. IsHandOf Recording.All (c.args.line.now ∷ []) k (vec_items hand)) (into_iter_items c.loop-hand.hand-iterator) (into_iter_items c.next.new.self) c.in-Some.hand (vec_len c.loop-hand.seats) step.0 i.left in
    let s = hand_one c.args.line.now (vec_len c.loop-hand.seats) c.in-Some.hand.items [] c.seat_of.result f.0 c.seat_of.ensures in
    record {
      left = λ k x e. subst (λ (z : ℕ). IsHandOf Recording.All (c.args.line.now ∷ []) (k + z) (vec_items x)) (sym more.len) (f.1 k x e);
      all = subst (λ (z : List _). (k : ℕ) (x : _) → get_elem? z k ≡ some x → IsSeatOf c.args.line.now x × (x.standing.pending ≡ Pending.Idle) × (Recording.All ≡ Recording.All → HasKeptAll x)) (sym more.items)
          (each_more (λ x. IsSeatOf c.args.line.now x × (x.standing.pending ≡ Pending.Idle) × (Recording.All ≡ Recording.All → HasKeptAll x)) c.loop-hand.seats.items c.seat_of.result i.all (s.of, s.idle, s.kept));
      held = held_more c.loop-hand.seats.items c.push.new.self.items c.seat_of.result (into_iter_items c.loop-hand.hand-iterator) (into_iter_items c.next.new.self) c.args.hands.items c.in-Some.hand more.items c.seat_of.ensures step.0 i.held;
    }

pub returns-clause-held : goal.returns-clause-held
returns-clause-held g c = held_all c.loop-hand.seats.items (into_iter_items c.loop-hand.hand-iterator) c.args.hands.items (no_length _ (omega (arith, c.in-None.ensures.steps.0, c.loop-hand.hand-iterator.rest.ok.0))) c.loop-hand.invariant.held
