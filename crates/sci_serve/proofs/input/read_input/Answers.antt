use Rattle.std.proofs.Common.{◌++◌, take}
use Rattle.std.proofs.KnownBytes.{Consumes-trans, Consumes-kept}
use Rattle.sci_serve.proofs.input.read_input.Goals.{in-Ok+in_ok-kept-in-Ok, in-Err}
use Rattle.sci_serve.proofs.input.read_input.Goals as goal

pub loop-preserved : goal.loop-preserved
loop-preserved g c =
    let (seen, consumed, kept) = c.loop.invariant in
    elim c.match-read.branch [
      | in-Ok+in_ok-kept-in-Ok w ↦
          (seen ++ take w.in-Ok.count c.read.new.buf, Consumes-trans _ _ _ _ _ consumed w.in-Ok.ensures.bytes.0, rw w.kept-is (w.in_ok-kept-in-Ok.ensures seen kept))
      | in-Err w ↦ (seen, Consumes-kept _ _ _ _ consumed w.in-Err.ensures.bytes, rw w.kept-is kept)
    ]

pub returns-in-None-clause-read : goal.returns-in-None-clause-read
returns-in-None-clause-read g c = tt

pub returns-in-Err-2-clause-in_time : goal.returns-in-Err-2-clause-in_time
returns-in-Err-2-clause-in_time g c = tt
