use Rattle.sci_ops.proofs.ops.Op.evict.Goals as goal

pub returns : goal.returns
returns c = c.towards.ensures
