use Rattle.std.proofs.Common.{rules, subst, vec_items}
use Rattle.std.specs.Prelude.{All}
use Rattle.std.specs.Vec.Iter.{into_iter_items}
use Rattle.std.proofs.lemmas.List.Elements.{All-head, All-push, All-tail}
use Rattle.sci_shared_tests.proofs.lines.callers.callers.Goals as goal

pub loop-seat-preserved : goal.loop-seat-preserved
loop-seat-preserved g c =
    let was = c.loop-seat.invariant in
    let both = subst (λ l. All (λ s. g.L.SharedLine.is_seat c.args.line.now s) l) c.in-Some.ensures.steps.0 was.left in
    record {
      left = All-tail (λ s. g.L.SharedLine.is_seat c.args.line.now s) _ _ both;
      made = rw c.in-Ok.ensures.items (All-push (λ x. g.L.SharedLine.is_seat c.args.line.now x.seat) (vec_items c.loop-seat.callers) _ was.made (All-head (λ s. g.L.SharedLine.is_seat c.args.line.now s) _ _ both));
    }
