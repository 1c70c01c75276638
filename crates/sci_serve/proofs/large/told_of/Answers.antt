use Rattle.std.proofs.Common.{refl, ap}
use Rattle.sci_reasons.specs.declared.reasons.RowFault.{RowFault}
use Rattle.sci_serve.proofs.large.told_of.Goals as goal

pub returns-in-DumpFault-clause-why : goal.returns-in-DumpFault-clause-why
returns-in-DumpFault-clause-why c = (c.why_row.result, refl, ap (λ (f : RowFault). f.line) c.why_row.ensures)
