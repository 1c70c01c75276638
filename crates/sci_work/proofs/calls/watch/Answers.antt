use Rattle.std.proofs.Common.{◌<◌, sym, subst}
use Rattle.sci_work.proofs.Watched.{watched_more, watched_once}
use Rattle.sci_work.proofs.calls.watch.Goals as goal

pub loop-init : goal.loop-init
loop-init g c = let e = c.own-seen.ensures in watched_once c.args.line c.own-seen.result e.gives e.same_way e.same_fact e.look e.others e.same_receipts

pub loop-preserved : goal.loop-preserved
loop-preserved g c = let e = c.own-found.ensures in watched_more c.loop.invariant c.args.line c.own-found.result e.gives e.same_way e.same_fact e.look e.others e.same_receipts

pub own-found-requires : goal.own-found-requires
own-found-requires g c = subst (λ w. c.args.line < w.lines) (sym c.loop.invariant.same_way) c.requires.line

pub returns-in-Some-Invalid-clause-watched : goal.returns-in-Some-Invalid-clause-watched
returns-in-Some-Invalid-clause-watched g c = let e = c.own-seen.ensures in watched_once c.args.line c.own-seen.result e.gives e.same_way e.same_fact e.look e.others e.same_receipts

pub returns-then-ne-clause-watched : goal.returns-then-ne-clause-watched
returns-then-ne-clause-watched g c = let e = c.own-found.ensures in watched_more c.loop.invariant c.args.line c.own-found.result e.gives e.same_way e.same_fact e.look e.others e.same_receipts

pub returns : goal.returns
returns g c = record { err = tt; watched = c.loop.invariant }
