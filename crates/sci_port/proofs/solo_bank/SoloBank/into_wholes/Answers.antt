use Rattle.sci_port.proofs.solo_bank.SoloBank.into_wholes.Goals as goal

pub returns : goal.returns
returns g c = c.into_parts.ensures.same_lines
