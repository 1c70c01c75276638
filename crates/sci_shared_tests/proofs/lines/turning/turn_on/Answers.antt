use Rattle.sci_ops.proofs.Storing.{any_store_fits}
use Rattle.sci_shared_tests.proofs.lines.turning.turn_on.Goals as goal

pub turn-requires : goal.turn-requires
turn-requires g c = record { fits = any_store_fits c.args.op.now.goal }
