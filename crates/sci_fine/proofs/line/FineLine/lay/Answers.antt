use Rattle.std.proofs.Common.{refl, sym, ap, ◌∙◌}
use Rattle.sci_core.specs.Table.{row_of}
use Rattle.sci_fine.specs.Steps.{slots_in}
use Rattle.sci_fine.proofs.Carried.{gives_there, gives_line, gives_none}
use Rattle.sci_fine.proofs.line.FineLine.lay.Goals as goal

pub slot_mut-slot-requires : goal.slot_mut-slot-requires
slot_mut-slot-requires g c = (c.requires.of, gives_there _ _ _ _ (sym c.requires.motion ∙ c.in-Gives.is) c.slot_of.ensures c.requires.hand)

pub returns-in-Gives : goal.returns-in-Gives
returns-in-Gives g c = record {
  same = (refl, refl, refl);
  hand = sym (ap slots_in c.slot_mut-slot.ensures.value);
  carries = gives_line (row_of c.args.standing.now.node c.args.standing.now.pending c.args.event.now).carry _ _ _ c.args.token.now.me.1 (sym c.requires.motion ∙ c.in-Gives.is) c.slot_of.ensures c.give.ensures;
}

pub returns-in_default : goal.returns-in_default
returns-in_default g c = record {
  same = (refl, refl, refl);
  hand = refl;
  carries = gives_none (row_of c.args.standing.now.node c.args.standing.now.pending c.args.event.now).carry _ (λ x m. c.in_default.not-Gives x (c.requires.motion ∙ m));
}
