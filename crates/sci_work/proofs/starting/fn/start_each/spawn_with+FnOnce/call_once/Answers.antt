use Rattle.sci_work.proofs.starting.fn.start_each.spawn_with+FnOnce.call_once.Goals as goal

pub spawn_with-requires : goal.spawn_with-requires
spawn_with-requires g c = let r = c.requires.1.1.1 in let b = r.1 in (b.0, (b.1, (b.2, (b.3, r.0))))
