use Rattle.std.proofs.Common.{◌≡◌, ◌++◌, ◌∷◌, ℕ, ◌+◌, ◌≤◌, List, [], length, refl, vec_items, arith, ap, sym, subst, ◌∙◌}
use Rattle.std.proofs.lemmas.Result.{IfOk-from_err}
use mathlib.Core.Option.{some, some-ne-none}
use lib.ListN.{get_elem?}
use Rattle.sci_core.specs.State.{blank}
use Rattle.sci_fine.specs.Banks.{IsLine}
use Rattle.sci_work.specs.Hands.{IsNewHand}
use Rattle.sci_work.proofs.Dealing.{are_new}
use Rattle.sci_work.proofs.Residual.{passed_on}
use Rattle.sci_work.proofs.Seated.{at_more}
use Rattle.sci_work.proofs.lines.opened.Goals as goal

pub loop-number-preserved : goal.loop-number-preserved
loop-number-preserved g c =
    let i = c.loop-number.invariant in let made = c.in_ok-line.ensures in let more = c.push_reserved.ensures in
    let at : c.loop-number.number ≡ length c.loop-number.lines.items = omega (arith, i.count, c.loop-number.lines.ok) in
    record {
      count = more.len ∙ ap (λ (z : ℕ). z + 1) i.count;
      room = subst (λ (z : ℕ). c.args.count ≤ z) (sym more.capacity) i.room;
      lines = at_more (IsLine c.args.nodes c.args.keep) c.loop-number.lines.items c.push_reserved.new.self.items c.in_ok-line.line more.items i.lines
          (subst (λ (k : ℕ). IsLine c.args.nodes c.args.keep k c.in_ok-line.line) at made.line);
      zeros = at_more (λ k x. x.terms.opening ≡ blank) c.loop-number.lines.items c.push_reserved.new.self.items c.in_ok-line.line more.items i.zeros made.opening;
      len = c.in_ok-hands-2.ensures.len ∙ i.len;
      hands = λ k x e. subst (λ (z : List _). IsNewHand z k (vec_items x)) (ap (λ (z : List _). z ++ c.in_ok-line.line ∷ []) c.deref.ensures.value ∙ sym more.items) (c.in_ok-hands-2.ensures.each k x e);
    }

pub loop-number-init : goal.loop-number-init
loop-number-init g c =
    let made = c.in_ok-lines.ensures in
    record {
      count = made.len;
      room = omega (arith, made.capacity, c.from.ensures);
      lines = λ k x e. absurd (some-ne-none x (sym (subst (λ (z : List _). get_elem? z k ≡ some x) made.items e)));
      zeros = λ k x e. absurd (some-ne-none x (sym (subst (λ (z : List _). get_elem? z k ≡ some x) made.items e)));
      len = c.in_ok-hands.ensures.len;
      hands = λ k x e. subst (λ (z : List _). IsNewHand z k (vec_items x)) (sym made.items) (c.in_ok-hands.ensures.each k x e);
    }

pub zeroed-requires : goal.zeroed-requires
zeroed-requires g c = record { nodes = c.requires.nodes; fits = c.requires.fits c.loop-number.number }

pub extended-requires : goal.extended-requires
extended-requires g c = record {
  count = c.in_ok-line.ensures.len ∙ sym c.loop-number.invariant.len;
  seats = are_new c.in_ok-line.line c.in_ok-line.seats.items c.in_ok-line.ensures.seats c.in_ok-line.ensures.new;
  hands = λ k x e. subst (λ (z : List _). IsNewHand z k (vec_items x)) (sym c.deref.ensures.value) (c.loop-number.invariant.hands k x e);
}

pub returns : goal.returns
returns g c =
    let i = c.loop-number.invariant in
    record { count = omega (arith, i.count, c.loop-number-test.false, c.loop-number.auto.number-end); lines = i.lines; zeros = i.zeros; len = i.len; hands = i.hands; err = tt }

pub returns-in_err-lines : goal.returns-in_err-lines
returns-in_err-lines g c =
    let r = c.from_residual in
    record {
      count = IfOk-from_err r.result _ r.ensures.0;
      lines = IfOk-from_err r.result _ r.ensures.0;
      zeros = IfOk-from_err r.result _ r.ensures.0;
      len = IfOk-from_err r.result _ r.ensures.0;
      hands = IfOk-from_err r.result _ r.ensures.0;
      err = passed_on r.result _ _ r.ensures.1 refl;
    }

pub returns-in_err-hands : goal.returns-in_err-hands
returns-in_err-hands g c =
    let r = c.from_residual-in_err-hands in
    record {
      count = IfOk-from_err r.result _ r.ensures.0;
      lines = IfOk-from_err r.result _ r.ensures.0;
      zeros = IfOk-from_err r.result _ r.ensures.0;
      len = IfOk-from_err r.result _ r.ensures.0;
      hands = IfOk-from_err r.result _ r.ensures.0;
      err = passed_on r.result _ _ r.ensures.1 c.in_err-hands.ensures.err;
    }

pub returns-in_err-line : goal.returns-in_err-line
returns-in_err-line g c =
    let r = c.from_residual-in_err-line in
    record {
      count = IfOk-from_err r.result _ r.ensures.0;
      lines = IfOk-from_err r.result _ r.ensures.0;
      zeros = IfOk-from_err r.result _ r.ensures.0;
      len = IfOk-from_err r.result _ r.ensures.0;
      hands = IfOk-from_err r.result _ r.ensures.0;
      err = passed_on r.result _ _ r.ensures.1 c.in_err-line.ensures.err;
    }

pub returns-in_err-hands-2 : goal.returns-in_err-hands-2
returns-in_err-hands-2 g c =
    let r = c.from_residual-in_err-hands-2 in
    record {
      count = IfOk-from_err r.result _ r.ensures.0;
      lines = IfOk-from_err r.result _ r.ensures.0;
      zeros = IfOk-from_err r.result _ r.ensures.0;
      len = IfOk-from_err r.result _ r.ensures.0;
      hands = IfOk-from_err r.result _ r.ensures.0;
      err = passed_on r.result _ _ r.ensures.1 c.in_err-hands-2.ensures.err;
    }
