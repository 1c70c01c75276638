use Rattle.std.proofs.Common.{[]}
use Rattle.std.proofs.KnownBytes.{Appends-nil}
use Rattle.sci_serve.proofs.Telling.{told_kept}
use Rattle.sci_serve.proofs.large.tell.Goals as goal

pub returns-in-Unlawful-clause-ok : goal.returns-in-Unlawful-clause-ok
returns-in-Unlawful-clause-ok g c = rw c.in-Unlawful.is ([], told_kept c.in-Unlawful.line c.in-Unlawful.rule c.args.number c.args.closed.now, Appends-nil _)

pub returns-in-Lawful-clause-ok : goal.returns-in-Lawful-clause-ok
returns-in-Lawful-clause-ok g c = rw c.in-Lawful.is c.tell_next.ensures.ok

pub returns-in-Lawful-clause-err : goal.returns-in-Lawful-clause-err
returns-in-Lawful-clause-err g c = rw c.in-Lawful.is c.tell_next.ensures.err
