use Rattle.sci_core.specs.Whole.{state_of}
use Rattle.sci_logs.proofs.Standing.{change_at}
use Rattle.sci_logs.proofs.meaning.change.Goals as goal

pub returns : goal.returns
returns c = change_at c.outline-outline.result c.stage.result.now ((state_of c.args.line.now).steps c.args.me) c.args.me c.args.event.now c.stage.ensures c.outline-outline.ensures
