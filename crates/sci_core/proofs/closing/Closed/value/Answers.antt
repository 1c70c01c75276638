use Rattle.std.proofs.Common.{Some, sym, ap, ◌∙◌}
use Rattle.sci_core.proofs.Values.{shared, kept}
use Rattle.sci_core.proofs.closing.Closed.value.Goals as goal

pub returns-in-Some-clause-shared : goal.returns-in-Some-clause-shared
returns-in-Some-clause-shared c = λ nodes is i on. shared c.args.self.now nodes is (Some c.in-Some.head) (sym (ap (λ v. v.mem.forw) c.self.view_is) ∙ c.in-Some.is) i on ∙ sym c.line_of.ensures

pub returns-in-Some-clause-memory : goal.returns-in-Some-clause-memory
returns-in-Some-clause-memory c = λ exact not_gone. kept c.args.self.now exact.0 exact.1 (Some c.in-Some.head) (sym (ap (λ v. v.mem.forw) c.self.view_is) ∙ c.in-Some.is) not_gone ∙ sym c.line_of.ensures
