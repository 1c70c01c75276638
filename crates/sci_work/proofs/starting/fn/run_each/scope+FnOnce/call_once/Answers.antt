use Rattle.sci_work.proofs.starting.fn.run_each.scope+FnOnce.call_once.Goals as goal

pub scope-requires : goal.scope-requires
scope-requires g c = let r = c.requires.1.1.1 in let b = r.1 in (b.0, (b.1, (b.2, (b.3, r.0))))

pub returns : goal.returns
returns g c = let e = c.scope.ensures in (e.few, (e.each, e.err))
