use Rattle.std.proofs.Common.{refl, arith}
use Rattle.sci_serve.proofs.Gathering.{stands_for}
use Rattle.sci_serve.proofs.kinds.Gathered.feeds.Goals as goal

pub returns-in-Log : goal.returns-in-Log
returns-in-Log c = λ seen rest h told is. stands_for c.args.self.now seen rest c.args.kind c.args.self.now.lines h told is (omega (arith, c.if-self.false)) (λ _. refl) (λ other. absurd (other c.in-Log.is))

pub returns-in_default : goal.returns-in_default
returns-in_default c = λ seen rest h told is. stands_for c.args.self.now seen rest c.args.kind c.args.self.now.passed h told is (omega (arith, c.if-self.false)) (λ log. absurd (c.in_default.not-Log log)) (λ _. refl)
