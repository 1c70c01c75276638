-- A write that is allowed, over the line that the pending step keeps.
use Rattle.std.proofs.Common.{◌≡◌, ℕ, true, false, Some, None, refl, ap, subst}
use Rattle.sci_core.specs.Answers.{is_allowed}
use Rattle.sci_core.specs.Stage.{pending_of, stage_of}
use Rattle.sci_core.specs.declared.events.Event.{Event}
use Rattle.sci_core.specs.declared.lines.Line.{Line}
use Rattle.sci_core.specs.declared.pending.Pending.{Pending}
use Rattle.sci_port.specs.ReceiptList.{CountsOver, WritesOver, line_before}
use Rattle.sci_port.proofs.Before.{counts_before}
use Rattle.sci_fine.proofs.Elements.{clash}

-- it is one over this line, whose stamp can count it
pub writes_kept : (n me : ℕ) (p : Pending) (e : Event) (line : Line) → is_allowed n me p e ≡ true → p ≡ pending_of (stage_of p) line → WritesOver p e line × CountsOver e line
writes_kept n me (Pending.Purging l seen) (Event.Written (Some words)) line h is = ((seen, is), subst (λ (x : Line). CountsOver (Event.Written (Some words)) x) (ap line_before is) (counts_before n me (Pending.Purging l seen) (Event.Written (Some words)) h))
writes_kept n me _ (Event.Written (Some words)) line h is = absurd (clash false h refl)
writes_kept n me p (Event.Written None) line h is = (tt, tt)
writes_kept n me p _ line h is = (tt, tt)
