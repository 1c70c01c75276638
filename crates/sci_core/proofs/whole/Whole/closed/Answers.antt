use Rattle.std.proofs.Common.{◌≡◌, ◌∙◌, ℕ, ◌<◌, map, sym, subst, ap}
use Rattle.sci_core.specs.declared.pending.Pending.{Pending}
use Rattle.sci_core.specs.Step.{line_in}
use Rattle.sci_core.specs.Whole.{WholeLine, nodes_of, state_of}
use Rattle.sci_core.proofs.Resting.{rest_lines}
use Rattle.sci_core.proofs.whole.Whole.closed.Goals as goal

pub read_off-requires-clause-tags : goal.read_off-requires-clause-tags
read_off-requires-clause-tags g c = c.in_ok-tags.ensures.items ∙ c.deref.ensures.value ∙ ap (λ (u : WholeLine g.row.K.Denot). u.tags) c.self.view_is

pub read_off-requires-clause-lines : goal.read_off-requires-clause-lines
read_off-requires-clause-lines g c =
    let idle = subst (λ (u : WholeLine g.row.K.Denot). (i : ℕ) → i < nodes_of u → (state_of u).steps i ≡ Pending.Idle) (sym c.self.view_is) c.requires in
    c.in_ok-lines.ensures.items ∙ c.deref-2.ensures.value ∙ rest_lines (g.K.Keeps.fits c.self.inside.keep c.self.inside.number) c.self.inside.keep c.self.inside.number c.self.inside.memory c.self.inside.tags.items c.self.inside.stages.items c.self.inside.memory_bytes c.self.inside.lines.items c.self.invariant idle ∙ ap (λ (u : WholeLine g.row.K.Denot). map line_in u.slots) c.self.view_is
