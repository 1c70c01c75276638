use Rattle.std.proofs.Common.{◌≡◌, ◌∙◌, Option, Some, None, refl, sym, ap}
use Rattle.sci_ops.specs.declared.goals.Goal.{Goal}
use Rattle.sci_ops.specs.declared.answers.Answer.{Answer}
use Rattle.sci_ops.specs.declared.answers.Turn.{Turn}
use Rattle.sci_ops.specs.Operation.{Operation}
use Rattle.sci_ops.specs.Table.{turn_again, after_turn}
use Rattle.sci_ops.proofs.Short.{three_loads}
use Rattle.sci_ops.proofs.Spending.{keeps_ended}
use Rattle.sci_ops.proofs.Took.{taken_as, took_none}
use Rattle.sci_ops.proofs.ops.Op.turn.Goals as goal

abbrev with_answer : Goal → Option Answer → Operation
with_answer goal answer = record { goal = goal; answer = answer }

no_answer : (a : Answer) → ◌≡◌ {A = Option Answer} (Some a) None → ⊥
no_answer a h = cc

-- a turn that doesn't end the operation leaves it as it was
stays_so : (op : Operation) (turn : Turn) → ((a : Answer) → turn ≡ Turn.Done a → ⊥) → op ≡ after_turn op turn
stays_so op (Turn.Done a) h = absurd (h a refl)
stays_so op Turn.Moved h = refl
stays_so op Turn.Waiting h = refl

pub returns-in-Some : goal.returns-in-Some
returns-in-Some g c =
    let op = c.args.self.now in
    let answered : op.answer ≡ Some c.in-Some.answer = ap (λ (x : Operation). x.answer) (sym c.self.view_is) ∙ c.in-Some.is in
    record {
      calls = taken_as (ap (λ (x : Option Answer). turn_again op.goal x (g.P.Port.way c.args.port.now).node (g.P.Port.at_step c.args.port.now)) answered) took_none;
      answers = λ none. absurd (no_answer c.in-Some.answer (sym answered ∙ none));
      last = λ none. absurd (no_answer c.in-Some.answer (sym answered ∙ none));
      kept = λ given. keeps_ended g.P.Port.gives g.P.Port.receipts op c.in-Some.answer c.args.port.now (g.P.Port.at_step c.args.port.now) answered;
      loads = three_loads op _ _;
      op = ap (with_answer op.goal) answered;
      same_way = refl;
      same_fact = refl;
    }
