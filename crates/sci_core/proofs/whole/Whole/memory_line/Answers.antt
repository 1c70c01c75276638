use Rattle.std.proofs.Common.{ℕ, List, ◌≡◌, ◌∙◌, ap, sym, subst}
use Rattle.sci_core.specs.declared.lines.Line.{Line}
use Rattle.sci_core.specs.declared.stages.Stage.{Stage}
use Rattle.sci_core.specs.declared.pending.Pending.{Pending}
use Rattle.sci_core.specs.Copies.{IsMemoryCopy}
use Rattle.sci_core.specs.Hands.{FindsKept, HasMemorySlot}
use Rattle.sci_core.specs.State.{State}
use Rattle.sci_core.specs.Laid.{seen_whole, step_laid}
use Rattle.sci_core.specs.Whole.{WholeLine, state_of}
use Rattle.sci_core.proofs.InHand.{memory_line_is}
use Rattle.sci_core.proofs.Laying.{state_seen}
use Rattle.sci_core.proofs.whole.Whole.memory_line.Goals as goal

pub returns : goal.returns
returns g c =
    let w : WholeLine g.row.K.Denot = seen_whole c.self.inside.keep c.self.inside.number c.self.inside.memory c.self.inside.tags.items c.self.inside.stages.items c.self.inside.memory_bytes c.self.inside.lines.items in
    let seen = state_seen c.self.inside.tags.items c.self.inside.stages.items c.self.inside.lines.items c.self.invariant.of_stages c.self.invariant.of_lines c.self.inside.keep c.self.inside.number c.self.inside.memory c.self.inside.memory_bytes in
    let steps : ◌≡◌ {A = ℕ → Pending} (step_laid c.deref.result.now c.deref-2.result.now) (state_of w).steps =
    ap (λ (s : List Stage). step_laid s c.deref-2.result.now) c.deref.ensures.value ∙ ap (λ (l : List Line). step_laid c.self.inside.stages.items l) c.deref-2.ensures.value ∙ ap (λ (s : State). s.steps) (sym seen) in
    let finds = subst (λ (f : ℕ → Pending). FindsKept HasMemorySlot f c.memory_in_hand.result) steps c.memory_in_hand.ensures in
    subst (λ (u : WholeLine g.row.K.Denot). IsMemoryCopy (state_of u) c.unwrap_or.result) c.self.view_is
    (memory_line_is (g.K.Keeps.fits w.keep w.number) w c.self.invariant.sound c.memory_at_home.result c.memory_in_hand.result c.or.result _ c.unwrap_or.result c.memory_at_home.ensures finds c.or.ensures c.unwrap_or.ensures)
