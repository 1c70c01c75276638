-- The numbers of a step mean that step, and those of an event that event.
use Rattle.std.proofs.Common.{◌≡◌, ℕ, ◌<◌, ◌≢◌, ◌&&◌, Bool, true, false, eqb, refl, sym, ap, subst, ◌∙◌, arith, ne_eqb, Option, Some, None}
use borrow.Author.Tests.{ltb-true}
use Rattle.sci_words.specs.declared.tags.Tag.{Tag}
use Rattle.sci_words.specs.Layout.{bit}
use Rattle.sci_words.specs.Tag.{link_below}
use Rattle.sci_core.specs.declared.stages.Stage.{Stage}
use Rattle.sci_core.specs.declared.events.Event.{Event}
use Rattle.sci_c.specs.declared.events.EventNumbers.{EventNumbers}
use Rattle.sci_c.specs.declared.steps.StepNumbers.{StepNumbers}
use Rattle.sci_c.specs.Links.{link_number, link_meant, node_meant, fits_tag, IsTag}
use Rattle.sci_c.specs.Events.{event_numbers, fits_event, event_meant, IsEvent}
use Rattle.sci_c.specs.Steps.{step_numbers, fits_step, stage_meant, IsStep}

pub not_both : (b : Bool) → b ≡ false → b ≡ true → ⊥
not_both b f t = cc

pub both : (a b : Bool) → (a && b) ≡ true → (a ≡ true) × (b ≡ true)
both true b h = (refl, h)
both false b h = cc

pub link_back : (f : Option ℕ) → link_below 65535 f ≡ true → link_meant (link_number f) ≡ f
link_back None h = refl
link_back (Some x) h = let l : x < 65535 = ltb-true x 65535 h in let n : x ≢ 65535 = omega arith in rw (ne_eqb x 65535 n) refl

pub node_back : (x : ℕ) → link_below 65535 (Some x) ≡ true → node_meant x ≡ x
node_back x h = let l : x < 65535 = ltb-true x 65535 h in let n : x ≢ 65535 = omega arith in rw (ne_eqb x 65535 n) refl

pub bit_back : (b : Bool) → eqb (bit b) 1 ≡ b
bit_back true = refl
bit_back false = refl

meant : (t : Tag) (s : Stage) → fits_step s ≡ true → ((u : Tag) → IsTag (step_numbers s).word u → t ≡ u) → stage_meant (step_numbers s) t ≡ s
meant t Stage.Idle h w = refl
meant t (Stage.Holding u) h w = ap Stage.Holding (w u (refl, h))
meant t (Stage.Queueing f) h w = ap Stage.Queueing (link_back f h)
meant t (Stage.Fetching f d) h w = λ i. Stage.Fetching (link_back f h i) (bit_back d i)
meant t (Stage.InQueue f d c) h w = λ i. Stage.InQueue (link_back f h i) (bit_back d i) (bit_back c i)
meant t (Stage.Copying x u) h w =
    let k = both (link_below 65535 (Some x)) (fits_tag u) h in
    λ i. Stage.Copying (node_back x k.0 i) (w u (refl, k.1) i)
meant t (Stage.Ready f d) h w = λ i. Stage.Ready (link_back f h i) (bit_back d i)
meant t (Stage.Converting f d) h w = λ i. Stage.Converting (link_back f h i) (bit_back d i)
meant t (Stage.Purging None) h w = refl
meant t (Stage.Purging (Some f)) h w = ap (λ (g : Option ℕ). Stage.Purging (Some g)) (link_back f h)
meant t (Stage.Advancing x u) h w =
    let k = both (link_below 65535 (Some x)) (fits_tag u) h in
    λ i. Stage.Advancing (node_back x k.0 i) (w u (refl, k.1) i)
meant t (Stage.Clearing x u) h w =
    let k = both (link_below 65535 (Some x)) (fits_tag u) h in
    λ i. Stage.Clearing (node_back x k.0 i) (w u (refl, k.1) i)
meant t (Stage.Leaving d None) h w = ap (λ (b : Bool). Stage.Leaving b None) (bit_back d)
meant t (Stage.Leaving d (Some f)) h w = λ i. Stage.Leaving (bit_back d i) (Some (link_back f h i))
meant t (Stage.Promoted d x) h w = λ i. Stage.Promoted (bit_back d i) (node_back x h i)
meant t Stage.WritingBack h w = refl
meant t (Stage.Parted f) h w = ap Stage.Parted (link_back f h)
meant t (Stage.Rolling d None) h w = ap (λ (b : Bool). Stage.Rolling b None) (bit_back d)
meant t (Stage.Rolling d (Some (f, b))) h w =
    let k = both (link_below 65535 f) (link_below 65535 (Some b)) h in
    λ i. Stage.Rolling (bit_back d i) (Some (link_back f k.0 i, node_back b k.1 i))
meant t (Stage.Unlinked f b) h w =
    let k = both (link_below 65535 f) (link_below 65535 (Some b)) h in
    λ i. Stage.Unlinked (link_back f k.0 i) (node_back b k.1 i)

-- what has these numbers is what they mean
pub is_meant : (n : StepNumbers) (t : Tag) (s : Stage) → ((u : Tag) → IsTag n.word u → t ≡ u) → IsStep n s → stage_meant n t ≡ s
is_meant n t s w h =
    ap (λ (m : StepNumbers). stage_meant m t) (sym h.0)
    ∙ meant t s h.1 (λ u i. w u (subst (λ (m : StepNumbers). IsTag m.word u) h.0 i))

event_back : (t : Tag) (e : Event) → fits_event e ≡ true → ((u : Tag) → IsTag (event_numbers e).found u → t ≡ u) → event_meant (event_numbers e) t ≡ e
event_back t Event.Look h w = refl
event_back t (Event.Queue f) h w = ap Event.Queue (link_back f h)
event_back t (Event.Requeue f) h w = ap Event.Requeue (link_back f h)
event_back t Event.PrependValid h w = refl
event_back t Event.ReturnMemory h w = refl
event_back t (Event.AttachFresh u) h w = ap Event.AttachFresh (w u (refl, h))
event_back t Event.Settle h w = refl
event_back t (Event.Hold u) h w = ap Event.Hold (w u (refl, h))
event_back t Event.Unhold h w = refl
event_back t (Event.Convert u) h w = ap Event.Convert (w u (refl, h))
event_back t Event.FreshToGone h w = refl
event_back t Event.Converted h w = refl
event_back t Event.Unconverted h w = refl
event_back t (Event.BeginPurge u) h w = ap Event.BeginPurge (w u (refl, h))
event_back t (Event.Written None) h w = refl
event_back t (Event.Written (Some words)) h w = refl
event_back t Event.PrependGone h w = refl
event_back t (Event.AttachDirty u) h w = ap Event.AttachDirty (w u (refl, h))
event_back t Event.ReturnCopy h w = refl
event_back t (Event.PurgeOne u) h w = ap Event.PurgeOne (w u (refl, h))
event_back t Event.Advance h w = refl
event_back t Event.Clear h w = refl
event_back t (Event.Roll u) h w = ap Event.Roll (w u (refl, h))
event_back t (Event.TellSuccessor u) h w = ap Event.TellSuccessor (w u (refl, h))
event_back t (Event.TellPredecessor u) h w = ap Event.TellPredecessor (w u (refl, h))
event_back t (Event.Adopt u) h w = ap Event.Adopt (w u (refl, h))
event_back t Event.Rolled h w = refl
event_back t (Event.Leave u) h w = ap Event.Leave (w u (refl, h))
event_back t (Event.Promote u) h w = ap Event.Promote (w u (refl, h))
event_back t Event.PassOn h w = refl
event_back t Event.Stay h w = refl
event_back t Event.ReEnter h w = refl
event_back t Event.ReturnHomeFresh h w = refl
event_back t Event.ReturnHomeDirty h w = refl
event_back t Event.Left h w = refl
event_back t Event.HomeWrite h w = refl

-- what has these numbers is the event that they mean
pub is_event_meant : (n : EventNumbers) (t : Tag) (e : Event) → ((u : Tag) → IsTag n.found u → t ≡ u) → IsEvent n e → event_meant n t ≡ e
is_event_meant n t e w h =
    ap (λ (m : EventNumbers). event_meant m t) (sym h.0)
    ∙ event_back t e h.1 (λ u i. w u (subst (λ (m : EventNumbers). IsTag m.found u) h.0 i))
