use Rattle.std.proofs.Common.{refl}
use Rattle.sci_serve.proofs.Gathering.{kind_found}
use Rattle.sci_serve.proofs.kinds.Gathered.kind.Goals as goal

pub returns-then-is_history : goal.returns-then-is_history
returns-then-is_history c = λ seen rest h told. kind_found c.args.self.now seen rest _ c.is_history.result _ c.is_history.ensures refl (rw c.if-is_history.true refl) h told

pub returns-then-is_log : goal.returns-then-is_log
returns-then-is_log c = λ seen rest h told. kind_found c.args.self.now seen rest _ c.is_history.result c.is_log.result c.is_history.ensures c.is_log.ensures (rw (c.if-is_history.false, c.if-is_log.true) refl) h told

pub returns-else-is_log : goal.returns-else-is_log
returns-else-is_log c = λ seen rest h told. kind_found c.args.self.now seen rest _ c.is_history.result c.is_log.result c.is_history.ensures c.is_log.ensures (rw (c.if-is_history.false, c.if-is_log.false) refl) h told
