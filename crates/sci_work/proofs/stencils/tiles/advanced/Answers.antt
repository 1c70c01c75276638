use Rattle.std.proofs.Common.{rules, ◌≡◌, ℕ, ◌+◌, ◌%◌, ◌^◌, slice_index, arith}
use Rattle.std.proofs.Math.Nat.{mod-add-mod}
use Rattle.sci_work.specs.Stencil.{before, behind}
use Rattle.sci_work.proofs.Words.{known_more, first_stays}
use Rattle.sci_work.proofs.stencils.tiles.advanced.Goals as goal
use Rattle.sci_work.proofs.stencils.tiles.advanced.Goals.{then-j-eq0, else-j-eq0, then-j-eq6, else-j-eq6}

pub loop-j-preserved : goal.loop-j-preserved
loop-j-preserved c =
    let was = c.loop-j.invariant in let j = c.loop-j.j in let left = c.args.left in let own = c.args.own.now in let right = c.args.right in
    let b : c.if-j-eq0.before ≡ before left own j = elim c.if-j-eq0.branch [ then-j-eq0 w ↦ search rules | else-j-eq0 w ↦ search rules ] in
    let h : c.if-j-eq6.behind ≡ behind right own j = elim c.if-j-eq6.branch [ then-j-eq6 w ↦ search rules | else-j-eq6 w ↦ search rules ] in
    let f : ℕ → ℕ = λ i. (before left own i + slice_index own (i + 1) + behind right own i) % 2 ^ 64 in record {
      size = search rules;
      number = first_stays c.loop-j.next j _ _ was.number;
      done = known_more c.loop-j.next f j _ was.size (omega arith) was.done (rw (b, h) (mod-add-mod (before left own j + slice_index own (j + 1)) (2 ^ 64) (behind right own j)));
    }
