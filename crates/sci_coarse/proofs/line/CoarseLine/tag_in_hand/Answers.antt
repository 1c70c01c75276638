use Rattle.std.proofs.Common.{◌<◌, Some, subst}
use Rattle.sci_core.specs.Whole.{WholeLine, nodes_of}
use Rattle.sci_port.specs.declared.calls.Call.TheVariants.{TagWas}
use Rattle.sci_coarse.proofs.Lending.{whole_hand, same_hand, lent}
use Rattle.sci_coarse.proofs.line.CoarseLine.tag_in_hand.Goals as goal

pub slot_mut-whole-requires : goal.slot_mut-whole-requires
slot_mut-whole-requires g c = let h = c.requires.hand in (c.requires.of, (h.0, whole_hand c.args.token.now.me.1 h.0 h.1))

pub returns-clause-called : goal.returns-clause-called
returns-clause-called g c = let h = c.requires.hand in λ node. lent g.K.Keeps.fits node (TagWas c.args.other (Some c.tag_of_whole.result)) c.args.token.now.me h.0 c.slot_mut-whole.result.now c.slot_mut-whole.result.now h.1 c.slot_mut-whole.ensures.value (c.tag_of_whole.ensures node)

pub tag_of_whole-requires : goal.tag_of_whole-requires
tag_of_whole-requires g c = let h = c.requires.hand in subst (λ (v : WholeLine g.row.K.Denot). c.args.other < nodes_of v) (same_hand c.args.token.now.me.1 h.0 c.slot_mut-whole.result.now h.1 c.slot_mut-whole.ensures.value) h.2
