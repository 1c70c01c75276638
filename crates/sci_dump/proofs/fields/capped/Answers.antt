use Rattle.std.proofs.Common.{rules}
use Rattle.sci_dump.proofs.Parts.{front_digits}
use Rattle.sci_dump.proofs.fields.capped.Goals as goal

pub capped_value-requires : goal.capped_value-requires
capped_value-requires c = search (rules, front_digits c.args.text.now)
