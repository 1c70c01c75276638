-- A row is its outline, filled with the own bytes after it; what becomes of the bytes of the other slots.
use Rattle.std.proofs.Common.{◌≡◌, ℕ, true, false, Bool, cond, Option, Some, None, List, [], ◌∷◌, drop, refl, ap, subst, inl, inr, ◌⊎◌}
use Rattle.sci_core.specs.declared.lines.Line.{Line}
use Rattle.sci_core.specs.declared.pending.Pending.{Pending}
use Rattle.sci_core.specs.declared.stages.Stage.{Stage}
use Rattle.sci_core.specs.declared.events.Event.{Event}
use Rattle.sci_core.specs.declared.rows.Place.{Place}
use Rattle.sci_core.specs.declared.rows.Carry.{Carry}
use Rattle.sci_core.specs.declared.rows.Exchange.{Exchange}
use Rattle.sci_core.specs.Shape.{Phase, phase_of, kept_of, line_of}
use Rattle.sci_core.specs.Law.{has_slot}
use Rattle.sci_core.specs.Carrying.{hand_of}
use Rattle.sci_core.specs.Laid.{MovesBelow, CanCountIn, CountsGiven}
use Rattle.sci_core.specs.Ranges.{CarriesBelow}
use Rattle.sci_core.specs.Row.{Row, exchange_with}
use Rattle.sci_core.specs.Stage.{pending_of, stage_of, motion_of, outline_of, own_after, filled}
use Rattle.sci_core.specs.Step.{CanCount}
use Rattle.sci_core.specs.Table.{has_row, row_of}
use Rattle.sci_core.specs.Table.Idle.{idle_row}
use Rattle.sci_core.specs.Table.Queueing.{queueing_row}
use Rattle.sci_core.specs.Table.InQueue.{in_queue_row}
use Rattle.sci_core.specs.Table.Converting.{converting_row}
use Rattle.sci_core.specs.Table.Purging.{purging_row, can_count, saw_none}
use Rattle.sci_core.specs.Table.Leaving.{leaving_row, promoted_row}
use Rattle.sci_core.specs.Table.Rolling.{rolling_row}
use Rattle.sci_core.proofs.Going.Facts.{and_right}
use Rattle.sci_core.proofs.Laying.{whole_step}

-- the exchange of a row, with the actor's own bytes and those of the slot that it takes
abbrev pub refilled : Row → Event → Line → Line → Exchange
refilled r e l y = filled (outline_of r) (own_after (outline_of r).motion (outline_of r).after e l y)

idle_filled : (me : ℕ) (l y : Line) (e : Event) → exchange_with y (idle_row me e) ≡ refilled (idle_row me e) e l y
idle_filled me l y (Event.Queue f) = refl
idle_filled me l y (Event.Hold w) = refl
idle_filled me l y (Event.Convert w) = refl
idle_filled me l y (Event.BeginPurge w) = refl
idle_filled me l y (Event.Roll w) = refl
idle_filled me l y (Event.Leave w) = refl
idle_filled me l y _ = refl

queueing_filled : (me : ℕ) (l y : Line) (e : Event) (f : Option ℕ) → exchange_with y (queueing_row me e f) ≡ refilled (queueing_row me e f) e l y
queueing_filled me l y (Event.Requeue g) f = refl
queueing_filled me l y Event.PrependValid f = refl
queueing_filled me l y Event.PrependGone (Some x) = refl
queueing_filled me l y Event.PrependGone None = refl
queueing_filled me l y Event.HomeWrite (Some x) = refl
queueing_filled me l y Event.HomeWrite None = refl
queueing_filled me l y _ f = refl

in_queue_filled : (me : ℕ) (l y : Line) (e : Event) (f : Option ℕ) (d c : Bool) → exchange_with y (in_queue_row me e f d (cond c (Some l) None)) ≡ refilled (in_queue_row me e f d (cond c (Some l) None)) e l y
in_queue_filled me l y (Event.AttachFresh w) (Some x) d true = refl
in_queue_filled me l y (Event.AttachDirty w) (Some x) d false = refl
in_queue_filled me l y Event.Settle None d true = refl
in_queue_filled me l y _ f d c = refl

converting_filled : (me : ℕ) (l y : Line) (e : Event) (f : Option ℕ) → exchange_with y (converting_row me f e) ≡ refilled (converting_row me f e) e l y
converting_filled me l y Event.FreshToGone f = refl
converting_filled me l y Event.Converted f = refl
converting_filled me l y Event.Unconverted f = refl
converting_filled me l y _ f = refl

purging_filled : (me : ℕ) (l y : Line) (e : Event) (seen : Option (Option ℕ)) → exchange_with y (purging_row me l e seen) ≡ refilled (purging_row me l e seen) e l y
purging_filled me l y (Event.Written words) seen = refl
purging_filled me l y (Event.PurgeOne w) (Some (Some x)) = refl
purging_filled me l y (Event.Adopt w) (Some (Some x)) = refl
purging_filled me l y _ seen = refl

leaving_filled : (me : ℕ) (l y : Line) (d : Bool) (e : Event) (seen : Option (Option ℕ)) → exchange_with y (leaving_row me d l e seen) ≡ refilled (leaving_row me d l e seen) e l y
leaving_filled me l y d (Event.Promote w) (Some (Some x)) = refl
leaving_filled me l y d Event.Stay (Some f) = refl
leaving_filled me l y d Event.ReturnHomeFresh (Some None) = refl
leaving_filled me l y d Event.ReturnHomeDirty (Some None) = refl
leaving_filled me l y d _ seen = refl

promoted_filled : (me : ℕ) (l y : Line) (d : Bool) (x : ℕ) (e : Event) → exchange_with y (promoted_row me d l x e) ≡ refilled (promoted_row me d l x e) e l y
promoted_filled me l y d x Event.PassOn = refl
promoted_filled me l y true x Event.ReEnter = refl
promoted_filled me l y false x Event.ReEnter = refl
promoted_filled me l y d x _ = refl

rolling_filled : (l y : Line) (e : Event) (seen : Option (Option ℕ × ℕ)) → exchange_with y (rolling_row e seen) ≡ refilled (rolling_row e seen) e l y
rolling_filled l y (Event.TellSuccessor w) (Some (Some x, b)) = refl
rolling_filled l y (Event.TellSuccessor w) (Some (None, b)) = refl
rolling_filled l y (Event.TellPredecessor w) (Some (f, b)) = refl
rolling_filled l y _ seen = refl

pub row_filled : (me : ℕ) (s : Stage) (l y : Line) (e : Event) → exchange_with y (row_of me (pending_of s l) e) ≡ refilled (row_of me (pending_of s l) e) e l y
row_filled me Stage.Idle l y e = idle_filled me l y e
row_filled me (Stage.Holding w) l y Event.Unhold = refl
row_filled me (Stage.Queueing f) l y e = queueing_filled me l y e f
row_filled me (Stage.Fetching f d) l y Event.ReturnMemory = refl
row_filled me (Stage.InQueue f d c) l y e = in_queue_filled me l y e f d c
row_filled me (Stage.Copying x w) l y Event.ReturnCopy = refl
row_filled me (Stage.Ready f d) l y Event.Settle = refl
row_filled me (Stage.Converting f t) l y e = converting_filled me l y e f
row_filled me (Stage.Purging seen) l y e = purging_filled me l y e seen
row_filled me (Stage.Advancing x w) l y Event.Advance = refl
row_filled me (Stage.Clearing x w) l y Event.Clear = refl
row_filled me (Stage.Leaving d seen) l y e = leaving_filled me l y d e seen
row_filled me (Stage.Promoted d x) l y e = promoted_filled me l y d x e
row_filled me Stage.WritingBack l y Event.ReturnMemory = refl
row_filled me (Stage.Parted f) l y Event.Left = refl
row_filled me (Stage.Rolling t seen) l y e = rolling_filled l y e seen
row_filled me (Stage.Unlinked f b) l y Event.Rolled = refl
row_filled me _ l y e = refl

write_given : (me : ℕ) (words : List ℕ) (p : Pending) → CanCount p (Event.Written (Some words)) → CountsGiven (Event.Written (Some words)) (motion_of (row_of me p (Event.Written (Some words))).carry) (line_of p)
write_given me words (Pending.Purging l seen) h = h
write_given me words _ h = tt

-- a write of words that is given back is counted
pub counts_given : (me : ℕ) (p : Pending) (e : Event) → CanCount p e → CountsGiven e (motion_of (row_of me p e).carry) (line_of p)
counts_given me p (Event.Written (Some words)) h = write_given me words p h
counts_given me p _ h = tt

pub counts_allowed : (n me : ℕ) (s : Stage) (l : Line) (e : Event) → has_row n me (pending_of s l) e ≡ true → CanCountIn l e
counts_allowed n me (Stage.Purging seen) l (Event.Written (Some words)) h = and_right (saw_none seen) (can_count l) h
counts_allowed n me _ l (Event.Written (Some words)) h = absurd (cc)
counts_allowed n me s l _ h = tt

pub motion_below : (n : ℕ) (c : Carry) → CarriesBelow n c → MovesBelow n (motion_of c)
motion_below n Carry.Stays h = tt
motion_below n (Carry.Takes x) h = h
motion_below n (Carry.Gives x l) h = h

-- a hand that has a slot has the own slot too
pub hand_has_slot : (me : ℕ) (p : Pending) (z : Place) (hand : List Place) → hand_of me p ≡ z ∷ hand → has_slot (phase_of p) ≡ true
hand_has_slot me Pending.Idle z hand e = absurd (cc)
hand_has_slot me (Pending.Converting f t) z hand e = absurd (cc)
hand_has_slot me (Pending.Rolling t seen) z hand e = absurd (cc)
hand_has_slot me (Pending.Unlinked f b) z hand e = absurd (cc)
hand_has_slot me _ z hand e = refl

-- the node whose slot was taken last
abbrev last_named : List Place → ℕ
last_named (Place.Node x ∷ hand) = x
last_named _ = 0

-- who gives memory's slot back has the own one left
pub memory_last : (me : ℕ) (p : Pending) → hand_of me p ≡ Place.Memory ∷ drop 1 (hand_of me p) → drop 1 (hand_of me p) ≡ Place.Node me ∷ []
memory_last me (Pending.Fetching f d l) e = refl
memory_last me (Pending.WritingBack l) e = refl
memory_last me _ e = absurd (cc)

-- who gives a node's slot back gives the own one, or copies that node, and has the own one left
pub node_last : (me : ℕ) (p : Pending) (x : ℕ) → hand_of me p ≡ Place.Node x ∷ drop 1 (hand_of me p)
    → (me ≡ x) ⊎ ((phase_of p ≡ Phase.Copying) × (kept_of p ≡ Some x) × (drop 1 (hand_of me p) ≡ Place.Node me ∷ []))
node_last me Pending.Idle x e = absurd (cc)
node_last me (Pending.Converting f t) x e = absurd (cc)
node_last me (Pending.Rolling t seen) x e = absurd (cc)
node_last me (Pending.Unlinked f b) x e = absurd (cc)
node_last me (Pending.Fetching f d l) x e = absurd (cc)
node_last me (Pending.WritingBack l) x e = absurd (cc)
node_last me (Pending.Copying y w l) x e = inr (refl, ap (λ (h : List Place). Some (last_named h)) e, refl)
node_last me _ x e = inl (ap last_named e)

-- the same of a step with its line
pub exchange_filled : (me : ℕ) (p : Pending) (e : Event) (y : Line) → exchange_with y (row_of me p e) ≡ refilled (row_of me p e) e (line_of p) y
exchange_filled me p e y = subst (λ (q : Pending). exchange_with y (row_of me q e) ≡ refilled (row_of me q e) e (line_of p) y) (whole_step p) (row_filled me (stage_of p) (line_of p) y e)
