use Rattle.std.proofs.Common.{◌≡◌, subst}
use Rattle.sci_core.specs.declared.pending.Pending.{Pending}
use Rattle.sci_fine.specs.Seats.{IsSeatOf}
use Rattle.sci_fine.proofs.Elements.{each_all}
use Rattle.sci_work.specs.declared.recording.Recording.{Recording}
use Rattle.sci_work.specs.Hands.{AreIdle}
use Rattle.sci_work.proofs.Fitting.{closed_of, history_of}
use Rattle.sci_work.proofs.lines.finished.Goals as goal

pub finish-requires : goal.finish-requires
finish-requires g c = record {
  seats = each_all (λ s. IsSeatOf c.args.line s) c.args.seats.items (λ k s e. (c.requires k s e).0);
  rest = each_all (λ s. s.standing.pending ≡ Pending.Idle) c.args.seats.items (λ k s e. (c.requires k s e).1);
}

pub returns-in-Ok-clause-ok : goal.returns-in-Ok-clause-ok
returns-in-Ok-clause-ok g c = closed_of g.K.Keeps.fits c.args.line _ c.in-Ok.made.closed c.in-Ok.ensures.ok.end

pub returns-in-Ok-clause-history : goal.returns-in-Ok-clause-history
returns-in-Ok-clause-history g c = λ all.
    history_of g.K.Keeps.fits c.args.line c.args.seats.items c.in-Ok.made.closed _ c.in-Ok.ensures.seats.0 (subst (λ (k : Recording). AreIdle k c.args.line c.args.seats.items) all c.requires) c.in-Ok.ensures.ok

pub returns-in-Ok-clause-own : goal.returns-in-Ok-clause-own
returns-in-Ok-clause-own g c = c.in-Ok.ensures.ok.own
