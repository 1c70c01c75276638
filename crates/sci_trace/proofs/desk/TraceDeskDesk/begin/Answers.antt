use Rattle.std.proofs.lemmas.Result.{on_err_weaker}
use Rattle.sci_trace.proofs.Same.{same_desk}
use Rattle.sci_trace.proofs.desk.TraceDeskDesk.begin.Goals as goal

pub returns-clause-same : goal.returns-clause-same
returns-clause-same c = on_err_weaker c.begin.result (λ same. same_desk c.args.self.now c.begin.new.self same _) c.begin.ensures.same
