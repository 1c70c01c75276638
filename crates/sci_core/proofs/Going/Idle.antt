-- The rows of a node that is Idle or Holding.
use Rattle.std.proofs.lemmas.Bool.{false≢true}
use Rattle.std.proofs.Common.{◌≡◌, ℕ, true, false, Option, Some, refl, subst, ap}
use Rattle.sci_words.specs.declared.tags.Tag.{Tag}
use Rattle.sci_words.specs.Tag.{link_below}
use Rattle.sci_core.specs.declared.lines.Line.{Line}
use Rattle.sci_core.specs.declared.pending.Pending.{Pending}
use Rattle.sci_core.specs.declared.events.Event.{Event}
use Rattle.sci_core.specs.State.{State, invalid, held_word}
use Rattle.sci_core.specs.Shape.{phase_of}
use Rattle.sci_core.specs.Law.{Witness, has_slot}
use Rattle.sci_core.specs.Found.{is_fresh, is_dirty, is_settled_front, is_settled_body, is_settled}
use Rattle.sci_core.specs.Step.{line_in}
use Rattle.sci_core.specs.Table.Idle.{idle_allows, idle_row, holding_allows, holding_row}
use Rattle.sci_core.proofs.Going.Forms.{Going, Turn, FindsRow}
use Rattle.sci_core.proofs.Going.Facts.{Found, found, fresh_kind, dirty_kind, body_kind, front_kind, held_kind, below_link, slot_home}
use Rattle.sci_core.proofs.Keeping.Queue.{queue_keeps_law, queue_keeps_links}
use Rattle.sci_core.proofs.Keeping.Hold.{hold_keeps_law, hold_keeps_links}
use Rattle.sci_core.proofs.Keeping.Unhold.{unhold_keeps_law, unhold_keeps_links}
use Rattle.sci_core.proofs.Keeping.Convert.{convert_keeps_law, convert_keeps_links}
use Rattle.sci_core.proofs.Keeping.BeginPurge.{begin_purge_keeps_law, begin_purge_keeps_links}
use Rattle.sci_core.proofs.Keeping.Roll.{roll_keeps_law, roll_keeps_links}
use Rattle.sci_core.proofs.Keeping.Leave.{leave_keeps_law, leave_keeps_links}

module _ (n : ℕ) (s : State) (g : Witness) (me : ℕ) where
  -- the own slot is at home where the own word is not held
  own_home : Turn n s g me Pending.Idle → (s.tags me).held ≡ false → s.slots me ≡ Some (line_in (s.slots me))
  own_home t u = slot_home s g t.law me (ap (λ (p : Pending). has_slot (phase_of p)) t.pending) u

  pub queue_goes : (f : Option ℕ) → Turn n s g me Pending.Idle → link_below n f ≡ true → s.tags me ≡ invalid → Going n s g me (Event.Queue f) (idle_row me (Event.Queue f))
  queue_goes f t allowed word = record {
    home = own_home t (ap (λ (w : Tag). w.held) word);
    after = g;
    law = queue_keeps_law s g t.law me f t.pending word;
    links = queue_keeps_links n s t.links me t.below f t.pending word (below_link n f allowed);
    value = refl;
  }

  hold_goes : Turn n s g me Pending.Idle → idle_allows n (Event.Hold (s.tags me)) ≡ true → Going n s g me (Event.Hold (s.tags me)) (idle_row me (Event.Hold (s.tags me)))
  hold_goes t allowed =
      let w : Found is_settled (s.tags me) = found is_settled (s.tags me) allowed in
      let home : s.slots me ≡ Some (line_in (s.slots me)) = own_home t w.unheld in
      record {
        home = home;
        after = g;
        law = hold_keeps_law s g t.law me (line_in (s.slots me)) t.pending (held_kind (s.tags me).kind w.kind) w.unheld home;
        links = hold_keeps_links n s t.links me t.below (line_in (s.slots me)) t.pending;
        value = refl;
      }

  convert_goes : Turn n s g me Pending.Idle → idle_allows n (Event.Convert (s.tags me)) ≡ true → Going n s g me (Event.Convert (s.tags me)) (idle_row me (Event.Convert (s.tags me)))
  convert_goes t allowed =
      let w : Found is_fresh (s.tags me) = found is_fresh (s.tags me) allowed in
      record {
        home = tt;
        after = g;
        law = convert_keeps_law s g t.law me t.pending (fresh_kind (s.tags me).kind w.kind) w.unheld;
        links = convert_keeps_links n s t.links me t.below t.pending;
        value = refl;
      }

  begin_purge_goes : Turn n s g me Pending.Idle → idle_allows n (Event.BeginPurge (s.tags me)) ≡ true → Going n s g me (Event.BeginPurge (s.tags me)) (idle_row me (Event.BeginPurge (s.tags me)))
  begin_purge_goes t allowed =
      let w : Found is_dirty (s.tags me) = found is_dirty (s.tags me) allowed in
      let home : s.slots me ≡ Some (line_in (s.slots me)) = own_home t w.unheld in
      record {
        home = home;
        after = g;
        law = begin_purge_keeps_law s g t.law me (line_in (s.slots me)) t.pending (dirty_kind (s.tags me).kind w.kind) w.unheld home;
        links = begin_purge_keeps_links n s t.links me t.below (line_in (s.slots me)) t.pending;
        value = refl;
      }

  roll_goes : Turn n s g me Pending.Idle → idle_allows n (Event.Roll (s.tags me)) ≡ true → Going n s g me (Event.Roll (s.tags me)) (idle_row me (Event.Roll (s.tags me)))
  roll_goes t allowed =
      let w : Found is_settled_body (s.tags me) = found is_settled_body (s.tags me) allowed in
      record {
        home = tt;
        after = g;
        law = roll_keeps_law s g t.law me t.pending (body_kind (s.tags me).kind w.kind) w.unheld;
        links = roll_keeps_links n s t.links me t.below t.pending;
        value = refl;
      }

  leave_goes : Turn n s g me Pending.Idle → idle_allows n (Event.Leave (s.tags me)) ≡ true → Going n s g me (Event.Leave (s.tags me)) (idle_row me (Event.Leave (s.tags me)))
  leave_goes t allowed =
      let w : Found is_settled_front (s.tags me) = found is_settled_front (s.tags me) allowed in
      let home : s.slots me ≡ Some (line_in (s.slots me)) = own_home t w.unheld in
      record {
        home = home;
        after = g;
        law = leave_keeps_law s g t.law me (line_in (s.slots me)) (is_dirty (s.tags me).kind) t.pending (front_kind (s.tags me).kind w.kind) w.unheld home;
        links = leave_keeps_links n s t.links me t.below (line_in (s.slots me)) (is_dirty (s.tags me).kind) t.pending;
        value = refl;
      }

  -- where an event carries the own word, it may be taken for the word found
  own_goes : (e : Tag → Event) → (Turn n s g me Pending.Idle → idle_allows n (e (s.tags me)) ≡ true → Going n s g me (e (s.tags me)) (idle_row me (e (s.tags me))))
      → (w : Tag) → Turn n s g me Pending.Idle → idle_allows n (e w) ≡ true → s.tags me ≡ w → Going n s g me (e w) (idle_row me (e w))
  own_goes e goes w t allowed word =
      let P : Tag → Type 0 = λ w. idle_allows n (e w) ≡ true → Going n s g me (e w) (idle_row me (e w)) in
      subst P word (goes t) allowed

  pub idle_goes : (e : Event) → Turn n s g me Pending.Idle → idle_allows n e ≡ true → (finds : FindsRow s (idle_row me e)) → Going n s g me e (idle_row me e)
  idle_goes (Event.Queue f) t allowed finds = queue_goes f t allowed finds
  idle_goes (Event.Hold w) t allowed finds = own_goes Event.Hold hold_goes w t allowed finds
  idle_goes (Event.Convert w) t allowed finds = own_goes Event.Convert convert_goes w t allowed finds
  idle_goes (Event.BeginPurge w) t allowed finds = own_goes Event.BeginPurge begin_purge_goes w t allowed finds
  idle_goes (Event.Roll w) t allowed finds = own_goes Event.Roll roll_goes w t allowed finds
  idle_goes (Event.Leave w) t allowed finds = own_goes Event.Leave leave_goes w t allowed finds
  idle_goes _ t allowed finds = absurd (false≢true allowed)

  unhold_goes : (w : Tag) (l : Line) → Turn n s g me (Pending.Holding w l) → s.tags me ≡ held_word w → Going n s g me Event.Unhold (holding_row me w l Event.Unhold)
  unhold_goes w l t word = record {
    home = tt;
    after = g;
    law = unhold_keeps_law s g t.law me l w t.pending word;
    links = unhold_keeps_links n s t.links me t.below l w t.pending word;
    value = refl;
  }

  pub holding_goes : (w : Tag) (l : Line) (e : Event) → Turn n s g me (Pending.Holding w l) → holding_allows e ≡ true → FindsRow s (holding_row me w l e) → Going n s g me e (holding_row me w l e)
  holding_goes w l Event.Unhold t allowed finds = unhold_goes w l t finds
  holding_goes w l _ t allowed finds = absurd (false≢true allowed)
