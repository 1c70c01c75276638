use Rattle.std.proofs.Common.{refl}
use Rattle.sci_port.proofs.Before.{mem_keeps}
use Rattle.sci_port.specs.Banks.{lent_lines}
use Rattle.sci_port.proofs.Banked.{mem_given}
use Rattle.sci_port.proofs.solo_bank.SoloBankBank.mem.Goals as goal

pub returns-clause-gives : goal.returns-clause-gives
returns-clause-gives g c = (mem_given g.K.Keeps.fits (lent_lines c.args.self.now.keep c.args.self.now.node c.args.self.now.wholes.items) c.args.line c.requires c.args.self.now.of c.from.result c.index-whole.result.now c.mem.result c.from.ensures c.index-whole.ensures c.mem.ensures.value c.mem.ensures.well_formed c.mem.ensures.links, record { here = mem_keeps _ _ _ _ refl; others = λ m other. refl })

pub returns-clause-form : goal.returns-clause-form
returns-clause-form g c = (returns-clause-gives g c).0.owes.1
