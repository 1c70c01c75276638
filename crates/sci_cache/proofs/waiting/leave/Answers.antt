use Rattle.std.proofs.Common.{◌<◌, refl, sym, ap, subst, ◌∙◌}
use Rattle.sci_port.specs.Banks.{BankWay}
use Rattle.sci_ops.specs.declared.answers.Turn.{Turn}
use Rattle.sci_ops.specs.declared.goals.Goal.{Goal}
use Rattle.sci_ops.specs.Table.{begun}
use Rattle.sci_cache.proofs.Keeping.{evict_none, none_on, ready_need, still_at_work, worked_on}
use Rattle.sci_cache.proofs.Unopened.{has_left, idle_all, leaves_none, leaves_on}
use Rattle.sci_cache.proofs.waiting.leave.Goals as goal

pub loop-init : goal.loop-init
loop-init g c = record {
  can = tt;
  finite = tt;
  runs = leaves_none g.B.Bank.gives g.B.Bank.at_step (g.B.Bank.way c.args.bank.now).node c.args.victim c.args.bank.now;
  others = λ m other. refl;
  kept = λ need. record { on = none_on g.B.Bank.gives g.B.Bank.readies g.B.Bank.at_step g.B.Bank.receipts c.args.bank.now; need = need };
  receipts = λ m other. refl;
  way = refl;
  nodes = λ m. refl;
  fact = refl;
}

pub turn_at-requires : goal.turn_at-requires
turn_at-requires g c =
    let i = c.loop.invariant in
    record {
      line = subst (λ (w : BankWay). c.args.victim < w.lines) (sym i.way) c.requires.line;
      fits = tt;
    }

pub loop-preserved-in-Moved : goal.loop-preserved-in-Moved
loop-preserved-in-Moved g c =
    let i = c.loop.invariant in
    let e = c.in-Moved.ensures in
    record {
      can = tt;
      finite = tt;
      runs = leaves_on g.B.Bank.gives g.B.Bank.at_step c.args.victim (g.B.Bank.way c.args.bank.now).node (g.B.Bank.way c.loop.bank).node (ap (λ (w : BankWay). w.node) i.way) (begun Goal.Evict) refl c.args.bank.now c.loop.bank c.turn_at.new.bank Turn.Moved tt (e.calls, e.answers, e.loads) i.runs;
      others = λ m other. e.others m other ∙ i.others m other;
      kept = λ need. still_at_work g.B.Bank.gives g.B.Bank.readies g.B.Bank.at_step g.B.Bank.receipts Goal.Evict c.args.victim (begun Goal.Evict) refl c.loop.bank c.turn_at.new.bank Turn.Moved c.args.victim refl e.kept e.other_receipts (i.kept need) tt;
      receipts = λ m other. e.other_receipts m other ∙ i.receipts m other;
      way = e.same_way ∙ i.way;
      nodes = λ m. e.same_nodes m ∙ i.nodes m;
      fact = e.same_fact ∙ i.fact;
    }

pub loop-preserved : goal.loop-preserved
loop-preserved g c =
    let i = c.loop.invariant in
    let e = c.in-Waiting.ensures in
    record {
      can = tt;
      finite = tt;
      runs = leaves_on g.B.Bank.gives g.B.Bank.at_step c.args.victim (g.B.Bank.way c.args.bank.now).node (g.B.Bank.way c.loop.bank).node (ap (λ (w : BankWay). w.node) i.way) (begun Goal.Evict) refl c.args.bank.now c.loop.bank c.turn_at.new.bank Turn.Waiting tt (e.calls, e.answers, e.loads) i.runs;
      others = λ m other. e.others m other ∙ i.others m other;
      kept = λ need. still_at_work g.B.Bank.gives g.B.Bank.readies g.B.Bank.at_step g.B.Bank.receipts Goal.Evict c.args.victim (begun Goal.Evict) refl c.loop.bank c.turn_at.new.bank Turn.Waiting c.args.victim refl e.kept e.other_receipts (i.kept need) tt;
      receipts = λ m other. e.other_receipts m other ∙ i.receipts m other;
      way = e.same_way ∙ i.way;
      nodes = λ m. e.same_nodes m ∙ i.nodes m;
      fact = e.same_fact ∙ i.fact;
    }

pub unreachable-requires : goal.unreachable-requires
unreachable-requires g c = let h = c.in-None.ensures.steps in cc

pub returns-in-Done : goal.returns-in-Done
returns-in-Done g c =
    let i = c.loop.invariant in
    let e = c.in-Done.ensures in
    record {
      runs = has_left g.B.Bank.gives g.B.Bank.at_step c.args.victim (g.B.Bank.way c.args.bank.now).node (g.B.Bank.way c.loop.bank).node (ap (λ (w : BankWay). w.node) i.way) (begun Goal.Evict) refl c.args.bank.now c.loop.bank c.turn_at.new.bank c.in-Done.field-0 (e.calls, e.answers, e.loads) i.runs;
      rest = λ idle. idle_all c.args.victim (g.B.Bank.at_step c.loop.bank) (g.B.Bank.at_step c.turn_at.new.bank) e.others e.idle (λ m other. i.others m other ∙ idle m);
      kept = λ ready.
          worked_on g.B.Bank.gives g.B.Bank.readies g.B.Bank.at_step g.B.Bank.receipts Goal.Evict c.args.victim (begun Goal.Evict) refl c.loop.bank c.turn_at.new.bank (Turn.Done c.in-Done.field-0) c.args.victim refl e.kept e.other_receipts
          (i.kept (ready_need Goal.Evict (g.B.Bank.at_step c.args.bank.now c.args.victim) (g.B.Bank.receipts c.args.bank.now c.args.victim) ready)) (evict_none c.in-Done.field-0);
      others = λ m other. e.other_receipts m other ∙ i.receipts m other;
      same_way = e.same_way ∙ i.way;
      same_nodes = λ m. e.same_nodes m ∙ i.nodes m;
      same_fact = e.same_fact ∙ i.fact;
    }
