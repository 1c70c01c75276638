use Rattle.sci_ops.proofs.ops.Op.write_line.Goals as goal

pub returns : goal.returns
returns c = c.towards.ensures
