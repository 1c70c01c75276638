use Rattle.std.proofs.Common.{rules, refl}
use Rattle.sci_port.specs.Banks.{IsLineOf}
use Rattle.sci_cache.proofs.Looking.{looked_at}
use Rattle.sci_shared_tests.proofs.cache.are_lines_of.Goals as goal

pub loop-line-preserved : goal.loop-line-preserved
loop-line-preserved c = λ keep. looked_at (IsLineOf keep c.args.me) c.args.wholes.now c.loop-line.line c.index-wholes-line.result (search rules) c.index-wholes-line.is (record { number = search rules; fact = refl; below = search rules }) (c.loop-line.invariant keep)
