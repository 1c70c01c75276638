use Rattle.sci_port.proofs.Before.{tag_keeps}
use Rattle.std.proofs.Common.{◌<◌, refl}
use Rattle.sci_core.specs.Whole.{WholeLine, nodes_of}
use Rattle.sci_port.specs.Banks.{lent_lines}
use Rattle.sci_port.proofs.Banked.{holds_of_read, tag_given}
use Rattle.sci_port.proofs.solo_bank.SoloBankBank.tag.Goals as goal

pub tag-requires : goal.tag-requires
tag-requires g c = holds_of_read g.K.Keeps.fits (lent_lines c.args.self.now.keep c.args.self.now.node c.args.self.now.wholes.items) c.args.line c.requires.line c.args.self.now.of (λ (w : WholeLine _). c.args.node < nodes_of w) c.from.result c.index-whole.result.now c.index-whole.result.now c.from.ensures c.index-whole.ensures c.requires.node

pub returns-clause-gives : goal.returns-clause-gives
returns-clause-gives g c = (tag_given g.K.Keeps.fits (lent_lines c.args.self.now.keep c.args.self.now.node c.args.self.now.wholes.items) c.args.line c.requires.line c.args.self.now.of c.from.result c.index-whole.result.now c.args.node c.tag.result c.from.ensures c.index-whole.ensures c.tag.ensures.value c.tag.ensures.well_formed c.tag.ensures.links, record { here = tag_keeps _ _ _ _ _ refl; others = λ m other. refl })

pub returns-clause-form : goal.returns-clause-form
returns-clause-form g c = (returns-clause-gives g c).0.owes.1
