use Rattle.std.proofs.Common.{◌≡◌, refl, sym, subst}
use Rattle.sci_ops.specs.declared.answers.Turn.{Turn}
use Rattle.sci_ops.specs.Answers.{AnswersAt, EndsWithStamp}
use Rattle.sci_ops.specs.Operation.{Operation}
use Rattle.sci_ops.specs.Plan.{Takes}
use Rattle.sci_ops.specs.Table.{begun, turn_in}
use Rattle.sci_ops.specs.TurnKinds.{turn_with}
use Rattle.sci_ops.proofs.Answering.{answers_by}
use Rattle.sci_ops.proofs.Noted.{keeps_answer}
use Rattle.sci_ops.proofs.Short.{three_loads}
use Rattle.sci_ops.proofs.Spending.{keeps_turn}
use Rattle.sci_ops.proofs.Took.{turn_keeps}
use Rattle.sci_ops.proofs.goals.Goal.turn.Goals as goal

pub returns : goal.returns
returns g c =
    let me = (g.P.Port.way c.args.port.now).node in
    let step = g.P.Port.at_step c.args.port.now in
    let op : Operation = begun c.args.self.now in
    let turn = c.with.result in
    let t = c.turn_towards.new.port in
    let shown : turn_with c.turn_towards.result c.turn_towards.new.shown ≡ turn = sym c.with.ensures in
    let taken : Takes g.P.Port.gives (turn_in c.args.self.now me step) c.args.port.now turn t = subst (λ (x : Turn). Takes g.P.Port.gives (turn_in c.args.self.now me step) c.args.port.now x t) shown c.turn_towards.ensures.calls in
    let stamped : EndsWithStamp turn step = subst (λ (x : Turn). EndsWithStamp x step) shown c.turn_towards.ensures.stamp in
    let answered : AnswersAt g.P.Port.gives g.P.Port.at_step op me c.args.port.now turn t = answers_by g.P.Port.gives g.P.Port.at_step _ _ _ g.met.P.Port.owes op me c.args.port.now t turn stamped taken in
    record {
      calls = taken;
      answers = answered;
      last = keeps_answer g.P.Port.gives g.P.Port.at_step g.P.Port.receipts g.met.P.Port.receives op me c.args.port.now t turn answered;
      kept = keeps_turn g.P.Port.gives g.P.Port.at_step g.P.Port.receipts _ _ _ g.met.P.Port.owes g.met.P.Port.receives op me c.args.port.now t turn refl taken;
      loads = three_loads op _ _;
      same_way = turn_keeps g.P.Port.way g.met.P.Port.same_way taken;
      same_fact = turn_keeps g.P.Port.keep g.met.P.Port.same_fact taken;
    }
