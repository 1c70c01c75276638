use Rattle.std.proofs.Common.{List, ℕ, ◌∙◌, ◌++◌, ap}
use Rattle.sci_serve.specs.Verdicts.{list_of}
use Rattle.sci_serve.proofs.Telling.{told_lawful, told_broken}
use Rattle.sci_serve.proofs.large.line_text.Goals as goal

pub returns-in_ok-push_list-in-None : goal.returns-in_ok-push_list-in-None
returns-in_ok-push_list-in-None c =
    told_lawful c.args.number c.args.closed.now _ c.in-None.ensures (λ nodes ends. c.in_ok-push_list-in-None.ensures nodes ends ∙ ap (λ (xs : List ℕ). xs ++ list_of c.args.number c.args.closed.now nodes) c.new-text.ensures.bytes)

pub returns-in_ok-text-in-Some : goal.returns-in_ok-text-in-Some
returns-in_ok-text-in-Some c = told_broken c.args.number c.args.closed.now c.in-Some.rule _ c.in-Some.ensures c.in_ok-text-in-Some.ensures
