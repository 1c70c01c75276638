use Rattle.std.proofs.Common.{sym}
use Rattle.sci_dump.proofs.Tags.{refused_read}
use Rattle.sci_dump.proofs.rows.tag.Goals as goal

pub returns-in-Err-clause-exact : goal.returns-in-Err-clause-exact
returns-in-Err-clause-exact c = refused_read c.args.layout c.args.word _ (sym c.in-Err.ensures.refusal)
