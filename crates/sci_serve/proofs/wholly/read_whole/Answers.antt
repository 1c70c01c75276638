use Rattle.std.proofs.Common.{◌++◌, take}
use Rattle.std.proofs.KnownBytes.{Consumes-trans, Consumes-kept}
use Rattle.sci_serve.proofs.wholly.read_whole.Goals.{in-Ok+in_ok-kept-in-Ok, in-Err}
use Rattle.sci_serve.proofs.wholly.read_whole.Goals as goal

pub loop-preserved : goal.loop-preserved
loop-preserved g c =
    let (seen, consumed, kept) = c.loop.invariant in
    elim c.match-read.branch [
      | in-Ok+in_ok-kept-in-Ok w ↦
          (seen ++ take w.in-Ok.count c.read.new.buf, Consumes-trans _ _ _ _ _ consumed w.in-Ok.ensures.bytes.0, rw w.kept-is (w.in_ok-kept-in-Ok.ensures seen kept))
      | in-Err w ↦ (seen, Consumes-kept _ _ _ _ consumed w.in-Err.ensures.bytes, rw w.kept-is kept)
    ]
