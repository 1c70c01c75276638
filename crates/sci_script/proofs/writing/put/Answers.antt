use Rattle.std.proofs.Common.{arith}
use Rattle.std.proofs.lemmas.List.{take_rest, length-drop}
use Rattle.std.proofs.Math.Seq.{take-add}
use Rattle.std.proofs.KnownBytes.{Appends-trans}
use Rattle.sci_script.proofs.writing.put.Goals as goal

pub loop-done-preserved : goal.loop-done-preserved
loop-done-preserved g c =
    let added = rw (take_rest c.args.bytes.now c.loop-done.done) at c.in_ok-done.ensures.ok in
    record {
      within = omega (arith, c.in_ok-done.ensures.some.1, length-drop c.loop-done.done c.args.bytes.now);
      written = rw take-add (Appends-trans _ _ _ _ _ c.loop-done.invariant.written added);
    }
