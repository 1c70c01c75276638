-- The rows of a node in the list that attaches the entry behind it and settles.
use Rattle.std.proofs.lemmas.Bool.{false≢true}
use Rattle.std.proofs.Common.{◌≡◌, ℕ, true, false, Bool, Option, Some, None, refl, subst}
use Rattle.sci_words.specs.declared.tags.Kind.{Kind}
use Rattle.sci_words.specs.declared.tags.Tag.{Tag}
use Rattle.sci_core.specs.declared.lines.Line.{Line}
use Rattle.sci_core.specs.declared.pending.Pending.{Pending}
use Rattle.sci_core.specs.declared.events.Event.{Event}
use Rattle.sci_core.specs.State.{State, update}
use Rattle.sci_core.specs.Shape.{phase_of}
use Rattle.sci_core.specs.Law.{Witness, has_slot}
use Rattle.sci_core.specs.Found.{is_fresh, is_dirty, is_found}
use Rattle.sci_core.specs.Row.{queued_word}
use Rattle.sci_core.specs.Step.{line_in}
use Rattle.sci_core.specs.Table.InQueue.{in_queue_allows, in_queue_row, copying_allows, copying_row, ready_allows, ready_row}
use Rattle.sci_core.proofs.Going.Forms.{Going, Turn, FindsRow}
use Rattle.sci_core.proofs.Going.Facts.{Found, found, fresh_kind, dirty_kind, some_line, dirty_is_home}
use Rattle.sci_core.proofs.Keeping.AttachFresh.{attach_fresh_keeps_law, attach_fresh_keeps_links}
use Rattle.sci_core.proofs.Keeping.AttachDirty.{attach_dirty_keeps_law, attach_dirty_keeps_links}
use Rattle.sci_core.proofs.Keeping.Settle.{settle_ready_keeps_law, settle_ready_keeps_links, settle_in_queue_keeps_law, settle_in_queue_keeps_links}
use Rattle.sci_core.proofs.Keeping.ReturnCopy.{return_copy_keeps_law, return_copy_keeps_links}

module _ (n : ℕ) (s : State) (g : Witness) (me : ℕ) where
  attach_fresh_goes : (x : ℕ) (l : Line) → Turn n s g me (Pending.InQueue (Some x) false (Some l)) → is_found is_fresh (s.tags x) ≡ true → Going n s g me (Event.AttachFresh (s.tags x)) (in_queue_row me (Event.AttachFresh (s.tags x)) (Some x) false (Some l))
  attach_fresh_goes x l t allowed =
      let w : Found is_fresh (s.tags x) = found is_fresh (s.tags x) allowed in
      record {
        home = tt;
        after = record g { last_front = me };
        law = attach_fresh_keeps_law s g t.law me x l t.pending (fresh_kind (s.tags x).kind w.kind) w.unheld;
        links = attach_fresh_keeps_links n s t.links me t.below x l t.pending;
        value = refl;
      }

  attach_dirty_goes : (x : ℕ) → Turn n s g me (Pending.InQueue (Some x) true None) → is_found is_dirty (s.tags x) ≡ true → Going n s g me (Event.AttachDirty (s.tags x)) (in_queue_row me (Event.AttachDirty (s.tags x)) (Some x) true None)
  attach_dirty_goes x t allowed =
      let w : Found is_dirty (s.tags x) = found is_dirty (s.tags x) allowed in
      let dirty : (s.tags x).kind ≡ Kind.Dirty = dirty_kind (s.tags x).kind w.kind in
      let idle : has_slot (phase_of (s.steps x)) ≡ false = dirty_is_home s g t.law x dirty w.unheld in
      let home : s.slots x ≡ Some (line_in (s.slots x)) = some_line (s.slots x) (t.law.slots.at_home x idle w.unheld) in
      record {
        home = home;
        after = record g { last_front = me; copier = update g.copier x me };
        law = attach_dirty_keeps_law s g t.law me x (line_in (s.slots x)) t.pending dirty w.unheld home;
        links = attach_dirty_keeps_links n s t.links me t.below x (line_in (s.slots x)) t.pending;
        value = refl;
      }

  settle_goes : (d : Bool) (l : Line) → Turn n s g me (Pending.InQueue None d (Some l)) → s.tags me ≡ queued_word None → Going n s g me Event.Settle (in_queue_row me Event.Settle None d (Some l))
  settle_goes d l t word = record {
    home = tt;
    after = g;
    law = settle_in_queue_keeps_law s g t.law me d l t.pending word;
    links = settle_in_queue_keeps_links n s t.links me t.below d l t.pending word;
    value = refl;
  }

  pub in_queue_goes : (e : Event) (f : Option ℕ) (d : Bool) (c : Option Line) → Turn n s g me (Pending.InQueue f d c) → in_queue_allows e f d c ≡ true → FindsRow s (in_queue_row me e f d c) → Going n s g me e (in_queue_row me e f d c)
  in_queue_goes (Event.AttachFresh w) (Some x) false (Some l) t allowed finds =
      let P : Tag → Type 0 = λ w. is_found is_fresh w ≡ true → Going n s g me (Event.AttachFresh w) (in_queue_row me (Event.AttachFresh w) (Some x) false (Some l)) in
      subst P finds (attach_fresh_goes x l t) allowed
  in_queue_goes (Event.AttachDirty w) (Some x) true None t allowed finds =
      let P : Tag → Type 0 = λ w. is_found is_dirty w ≡ true → Going n s g me (Event.AttachDirty w) (in_queue_row me (Event.AttachDirty w) (Some x) true None) in
      subst P finds (attach_dirty_goes x t) allowed
  in_queue_goes Event.Settle None d (Some l) t allowed finds = settle_goes d l t finds
  in_queue_goes _ f d c t allowed finds = absurd (false≢true allowed)

  return_copy_goes : (x : ℕ) (w : Tag) (l : Line) → Turn n s g me (Pending.Copying x w l) → s.tags x ≡ w → Going n s g me Event.ReturnCopy (copying_row x w l Event.ReturnCopy)
  return_copy_goes x w l t word = record {
    home = tt;
    after = g;
    law = return_copy_keeps_law s g t.law me x l w t.pending word;
    links = return_copy_keeps_links n s t.links me t.below x l w t.pending word;
    value = refl;
  }

  pub copying_goes : (x : ℕ) (w : Tag) (l : Line) (e : Event) → Turn n s g me (Pending.Copying x w l) → copying_allows e ≡ true → FindsRow s (copying_row x w l e) → Going n s g me e (copying_row x w l e)
  copying_goes x w l Event.ReturnCopy t allowed finds = return_copy_goes x w l t finds
  copying_goes x w l _ t allowed finds = absurd (false≢true allowed)

  settle_ready_goes : (f : Option ℕ) (d : Bool) (l : Line) → Turn n s g me (Pending.Ready f d l) → s.tags me ≡ queued_word f → Going n s g me Event.Settle (ready_row me f d l Event.Settle)
  settle_ready_goes f d l t word = record {
    home = tt;
    after = g;
    law = settle_ready_keeps_law s g t.law me f d l t.pending word;
    links = settle_ready_keeps_links n s t.links me t.below f d l t.pending word;
    value = refl;
  }

  pub ready_goes : (f : Option ℕ) (d : Bool) (l : Line) (e : Event) → Turn n s g me (Pending.Ready f d l) → ready_allows e ≡ true → FindsRow s (ready_row me f d l e) → Going n s g me e (ready_row me f d l e)
  ready_goes f d l Event.Settle t allowed finds = settle_ready_goes f d l t finds
  ready_goes f d l _ t allowed finds = absurd (false≢true allowed)
