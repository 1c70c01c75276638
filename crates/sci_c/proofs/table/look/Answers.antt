use Rattle.sci_core.specs.State.{blank}
use Rattle.sci_c.proofs.Looks.{look_fits}
use Rattle.sci_c.proofs.table.look.Goals as goal

pub unreachable-requires : goal.unreachable-requires
unreachable-requires c = look_fits c.in-Some.stage c.look.new.self c.in-Ok.tag c.in-Some.ensures.step.1 c.in-Ok.ensures.links (c.look.ensures blank) c.in_default-write_step.ensures
