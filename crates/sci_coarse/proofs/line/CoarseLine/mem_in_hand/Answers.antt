use Rattle.std.proofs.Common.{Some}
use Rattle.sci_port.specs.declared.calls.Call.TheVariants.{MemWas}
use Rattle.sci_coarse.proofs.Lending.{whole_hand, lent}
use Rattle.sci_coarse.proofs.line.CoarseLine.mem_in_hand.Goals as goal

pub slot_mut-whole-requires : goal.slot_mut-whole-requires
slot_mut-whole-requires g c = let h = c.requires.hand in (c.requires.of, (h.0, whole_hand c.args.token.now.me.1 h.0 h.1))

pub returns-clause-called : goal.returns-clause-called
returns-clause-called g c = let h = c.requires.hand in λ node. lent g.K.Keeps.fits node (MemWas (Some c.mem_of_whole.result)) c.args.token.now.me h.0 c.slot_mut-whole.result.now c.slot_mut-whole.result.now h.1 c.slot_mut-whole.ensures.value (c.mem_of_whole.ensures node)
