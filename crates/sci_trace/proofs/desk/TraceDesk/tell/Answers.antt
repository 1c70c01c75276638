use Rattle.std.proofs.Common.{◌≡◌, ◌∙◌, sym, ap, subst, ℕ, Option}
use Rattle.std.proofs.lemmas.Option.{same_Some}
use Rattle.sci_core.specs.Stage.{stage_of}
use Rattle.sci_script.specs.declared.commands.Size.{Size}
use Rattle.sci_script.specs.Shared.{Shared}
use Rattle.sci_script.specs.Wholes.{shared_of}
use Rattle.sci_trace.specs.declared.texts.Wait.{Wait}
use Rattle.sci_trace.specs.Lists.{walked}
use Rattle.sci_trace.specs.Telling.{IsWait}
use Rattle.sci_trace.proofs.Tellings.{told_line}
use Rattle.sci_trace.proofs.desk.TraceDesk.tell.Goals as goal

pub returns-clause-told : goal.returns-clause-told
returns-clause-told c =
    let stands = subst (λ (x : Shared). c.stage-stage.result ≡ stage_of ((x.lines c.args.passed.now.line).steps c.args.node)) c.in-Some.ensures.saw.1 c.stage-stage.ensures.value in
    let mem = c.in-Some.mem in
    let line = c.args.passed.now.line in
    let old = shared_of c.args.self.now.desk in
    let along =
    ap (λ (x : Shared). walked (x.lines line).tags c.args.self.now.size.nodes mem.forw) (c.stage-stage.ensures.same ∙ c.in-Some.ensures.saw.1)
    ∙ ap (λ (z : Size). walked (old.lines line).tags z.nodes mem.forw) (sym c.args.self.now.same) in
    told_line c.args.node c.args.goal.now c.args.passed.now c.stage-stage.result c.wait_of-wait.result c.in-Some.mem _ _ _ _ _ (λ (wait : Option Wait). IsWait c.args.turn.now old line c.args.node c.args.times wait) _ _ (old.lines line).tags old.width
    c.wait_of-wait.ensures stands (same_Some c.in-Some.mem _ c.in-Some.ensures.saw.0) along c.tell.ensures.told
