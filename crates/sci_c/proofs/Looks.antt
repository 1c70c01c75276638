-- Looks, and writes that are counted.
use Rattle.std.proofs.Common.{◌≡◌, ℕ, ◌&&◌, Bool, true, false, refl, sym, ap, ◌∙◌, Option, Some, None}
use Rattle.sci_words.specs.declared.tags.Tag.{Tag}
use Rattle.sci_words.specs.Tag.{link_below, tag_links_below}
use Rattle.sci_core.specs.declared.lines.Line.{Line}
use Rattle.sci_core.specs.declared.pending.Pending.{Pending}
use Rattle.sci_core.specs.declared.stages.Stage.{Stage}
use Rattle.sci_core.specs.declared.events.Event.{Event}
use Rattle.sci_core.specs.declared.outlines.Motion.{Motion}
use Rattle.sci_core.specs.Laid.{CanCountIn, CountsGiven}
use Rattle.sci_core.specs.Stage.{pending_of, stage_of}
use Rattle.sci_core.specs.State.{blank}
use Rattle.sci_core.specs.Step.{look_of, is_look}
use Rattle.sci_core.specs.Table.{has_row}
use Rattle.sci_core.proofs.Filling.{counts_allowed}
use Rattle.sci_core.proofs.Laying.{stage_with}
use Rattle.sci_c.proofs.Meaning.{both, not_both}
use Rattle.sci_c.specs.Steps.{fits_step, fits_pair}

no_row : (n me : ℕ) (p : Pending) → has_row n me p Event.Look ≡ false
no_row n me (Pending.Leaving d l None) = refl
no_row n me (Pending.Leaving d l (Some None)) = refl
no_row n me (Pending.Leaving d l (Some (Some x))) = refl
no_row n me (Pending.Rolling t None) = refl
no_row n me (Pending.Rolling t (Some s)) = refl
no_row n me _ = refl

-- the table has no row for a look
pub look_has_no_row : (n me : ℕ) (p : Pending) (e : Event) → is_look e ≡ true → has_row n me p e ≡ false
look_has_no_row n me p Event.Look h = no_row n me p
look_has_no_row n me p _ h = absurd (cc)

counts_own : (e : Event) (m : Motion) (l : Line) → CanCountIn l e → CountsGiven e m l
counts_own (Event.Written (Some words)) (Motion.Gives x) l h = h
counts_own (Event.Written (Some words)) Motion.Stays l h = tt
counts_own (Event.Written (Some words)) (Motion.Takes x) l h = tt
counts_own _ m l h = tt

-- a write that the table has a row for is counted
pub counts_row : (n me : ℕ) (s : Stage) (l : Line) (e : Event) (m : Motion) → has_row n me (pending_of s l) e ≡ true → CountsGiven e m l
counts_row n me s l e m h = counts_own e m l (counts_allowed n me s l e h)

roll_fits : (told : Bool) (seen : Option (Option ℕ × ℕ)) (f b : Option ℕ) → fits_pair seen ≡ true → (link_below 65535 f && link_below 65535 b) ≡ true
    → (t : Tag) → t.forw ≡ f → t.back ≡ b → fits_step (stage_of (look_of (Pending.Rolling told seen) t)) ≡ true
roll_fits told seen f (Some b) h k t p q = rw (p, q) k
roll_fits told seen f None h k t p q = rw (p, q) h

looked : (s : Stage) (t : Tag) → fits_step s ≡ true → tag_links_below 65535 t ≡ true → fits_step (stage_of (look_of (pending_of s blank) t)) ≡ true
looked (Stage.Purging seen) t h k = (both (link_below 65535 t.forw) (link_below 65535 t.back) k).0
looked (Stage.Leaving d seen) t h k = (both (link_below 65535 t.forw) (link_below 65535 t.back) k).0
looked (Stage.Rolling told seen) t h k = roll_fits told seen t.forw t.back h k t refl refl
looked (Stage.InQueue f d true) t h k = h
looked (Stage.InQueue f d false) t h k = h
looked _ t h k = h

-- what a look records has numbers
pub look_fits : (s u : Stage) (t : Tag) → fits_step s ≡ true → tag_links_below 65535 t ≡ true → pending_of u blank ≡ look_of (pending_of s blank) t → fits_step u ≡ false → ⊥
look_fits s u t h k e unfit =
    not_both (fits_step u) unfit (ap fits_step (sym (stage_with u blank) ∙ ap stage_of e) ∙ looked s t h k)
