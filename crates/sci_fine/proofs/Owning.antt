-- The line in a node's own hand, through a row.
use Rattle.std.proofs.Common.{◌≡◌, ℕ, Option, Some, None, cond, sym, ap, ◌∙◌}
use Rattle.sci_core.specs.declared.lines.Line.{Line}
use Rattle.sci_core.specs.declared.stages.Stage.{Stage}
use Rattle.sci_core.specs.declared.events.Event.{Event}
use Rattle.sci_core.specs.declared.rows.Exchange.{Exchange}
use Rattle.sci_core.specs.declared.outlines.Motion.{Motion}
use Rattle.sci_core.specs.declared.outlines.Outline.{Outline}
use Rattle.sci_core.specs.Laid.{CanCountIn, CountsGiven}
use Rattle.sci_core.specs.Stage.{pending_of, outline_of, own_after}
use Rattle.sci_core.specs.Table.{row_of}
use Rattle.sci_core.proofs.Filling.{row_filled}

-- a write of words is counted where it is given back
pub counts_own : (e : Event) (m : Motion) (l : Line) → CanCountIn l e → CountsGiven e m l
counts_own (Event.Written (Some words)) (Motion.Gives x) l h = h
counts_own (Event.Written (Some words)) Motion.Stays l h = tt
counts_own (Event.Written (Some words)) (Motion.Takes x) l h = tt
counts_own _ m l h = tt

-- the step and the answer of a row, put together from the own line after it
module _ (me : ℕ) (s : Stage) (l : Line) (e : Event) (y : Line) (o : Outline) (own : Line) (is : o ≡ outline_of (row_of me (pending_of s l) e)) (after : own ≡ own_after o.motion o.after e l y) where
  own_is : own ≡ own_after (outline_of (row_of me (pending_of s l) e)).motion (outline_of (row_of me (pending_of s l) e)).after e l y
  own_is = after ∙ ap (λ (x : Outline). own_after x.motion x.after e l y) is

  pub step_own : pending_of o.after own ≡ (row_of me (pending_of s l) e).after y
  step_own = (λ i. pending_of (is i).after (own_is i)) ∙ sym (ap (λ (x : Exchange). x.after) (row_filled me s l y e))

  pub answer_own : (r : Option Line) → r ≡ cond o.answers (Some own) None → r ≡ (row_of me (pending_of s l) e).answer y
  answer_own r gives = gives ∙ ((λ i. cond (is i).answers (Some (own_is i)) None) ∙ sym (ap (λ (x : Exchange). x.answer) (row_filled me s l y e)))
