use Rattle.std.proofs.Common.{◌<◌, Some, refl, subst, sym}
use Rattle.sci_port.specs.Banks.{BankWay, lent_lines}
use Rattle.sci_port.proofs.Before.{look_keeps, own_keeps}
use Rattle.sci_port.proofs.SeatReceipts.{all_stay}
use Rattle.sci_port.proofs.Banked.{look_given, node_below}
use Rattle.sci_port.proofs.Seated.{own_form, own_word}
use Rattle.sci_port.proofs.solo_bank.SoloBankBank.own.Goals as goal

pub step-requires-clause-allowed : goal.step-requires-clause-allowed
step-requires-clause-allowed g c = refl

pub tag-requires : goal.tag-requires
tag-requires g c = node_below g.K.Keeps.fits (lent_lines c.step.new.self.keep c.step.new.self.node c.step.new.self.wholes.items) c.args.line (subst (λ (w : BankWay). c.args.line < w.lines) (sym c.step.ensures.same_way) c.requires) c.step.new.self.of c.from.result c.index-whole.result.now c.index-whole.result.now c.from.ensures c.index-whole.ensures

pub returns-clause-gives : goal.returns-clause-gives
returns-clause-gives g c = (look_given g.K.Keeps.fits (lent_lines c.args.self.now.keep c.args.self.now.node c.args.self.now.wholes.items) (lent_lines c.step.new.self.keep c.step.new.self.node c.step.new.self.wholes.items) c.args.line (subst (λ (w : BankWay). c.args.line < w.lines) (sym c.step.ensures.same_way) c.requires) c.step.new.self.of c.step.result c.from.result c.index-whole.result.now c.tag.result c.step.ensures.gives.0 c.from.ensures c.index-whole.ensures c.tag.ensures.value c.tag.ensures.well_formed c.tag.ensures.links, record { here = own_keeps _ _ _ _ (look_keeps _ c.step.result _ _ c.step.ensures.gives.1.here); others = c.step.ensures.gives.1.others })

pub returns-clause-same_way : goal.returns-clause-same_way
returns-clause-same_way g c = (returns-clause-gives g c).0.stays.way

pub returns-clause-same_nodes : goal.returns-clause-same_nodes
returns-clause-same_nodes g c = (returns-clause-gives g c).0.stays.nodes

pub returns-clause-others : goal.returns-clause-others
returns-clause-others g c = (returns-clause-gives g c).0.stays.steps

pub returns-clause-look : goal.returns-clause-look
returns-clause-look g c = (returns-clause-gives g c).0.owes.0

pub returns-clause-own : goal.returns-clause-own
returns-clause-own g c = own_word _ _ (Some c.tag.result) (returns-clause-gives g c).0.owes.1

pub returns-clause-form : goal.returns-clause-form
returns-clause-form g c = own_form _ _ (Some c.tag.result) (returns-clause-gives g c).0.owes.1

pub returns-clause-same_fact : goal.returns-clause-same_fact
returns-clause-same_fact g c = (returns-clause-gives g c).0.stays.fact

pub returns-clause-same_receipts : goal.returns-clause-same_receipts
returns-clause-same_receipts g c = all_stay (returns-clause-gives g c).1 ((returns-clause-gives g c).1.here.kept tt)
