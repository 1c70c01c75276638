use Rattle.std.proofs.Common.{ap, sym}
use Rattle.sci_dump.specs.Rules.{rule_number}
use Rattle.sci_dump.proofs.checking.Rule.number.Goals as goal

pub returns-in-Listed : goal.returns-in-Listed
returns-in-Listed c = ap rule_number (sym c.in-Listed.is)
