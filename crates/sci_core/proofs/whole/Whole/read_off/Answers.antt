use Rattle.std.proofs.Common.{◌≡◌, ◌∙◌, ℕ, ◌<◌, map, sym, subst, ap}
use Rattle.sci_core.specs.declared.pending.Pending.{Pending}
use Rattle.sci_core.specs.Closed.{IsReadOff}
use Rattle.sci_core.specs.Step.{line_in}
use Rattle.sci_core.specs.Whole.{WholeLine, nodes_of, state_of}
use Rattle.sci_core.proofs.Resting.{rests}
use Rattle.sci_core.proofs.whole.Whole.read_off.Goals as goal

pub invariant_of-result : goal.invariant_of-result
invariant_of-result g c =
    let tags : c.args.tags.items ≡ c.self.inside.tags.items = c.requires.tags ∙ sym (ap (λ (u : WholeLine g.row.K.Denot). u.tags) c.self.view_is) in
    let lines = c.requires.lines ∙ sym (ap (λ (u : WholeLine g.row.K.Denot). map line_in u.slots) c.self.view_is) in
    let idle = subst (λ (u : WholeLine g.row.K.Denot). (i : ℕ) → i < nodes_of u → (state_of u).steps i ≡ Pending.Idle) (sym c.self.view_is) c.requires.idle in
    (rests (g.K.Keeps.fits c.self.inside.keep c.self.inside.number) c.self.inside.keep c.self.inside.number c.self.inside.memory c.self.inside.tags.items c.self.inside.stages.items c.self.inside.memory_bytes c.self.inside.lines.items c.self.invariant idle c.args.tags.items c.args.lines.items tags lines).closed

pub returns-clause-exact : goal.returns-clause-exact
returns-clause-exact g c =
    let tags : c.args.tags.items ≡ c.self.inside.tags.items = c.requires.tags ∙ sym (ap (λ (u : WholeLine g.row.K.Denot). u.tags) c.self.view_is) in
    let lines = c.requires.lines ∙ sym (ap (λ (u : WholeLine g.row.K.Denot). map line_in u.slots) c.self.view_is) in
    let idle = subst (λ (u : WholeLine g.row.K.Denot). (i : ℕ) → i < nodes_of u → (state_of u).steps i ≡ Pending.Idle) (sym c.self.view_is) c.requires.idle in
    (rests (g.K.Keeps.fits c.self.inside.keep c.self.inside.number) c.self.inside.keep c.self.inside.number c.self.inside.memory c.self.inside.tags.items c.self.inside.stages.items c.self.inside.memory_bytes c.self.inside.lines.items c.self.invariant idle c.args.tags.items c.args.lines.items tags lines).exact

pub returns-clause-read : goal.returns-clause-read
returns-clause-read g c =
    let tags : c.args.tags.items ≡ c.self.inside.tags.items = c.requires.tags ∙ sym (ap (λ (u : WholeLine g.row.K.Denot). u.tags) c.self.view_is) in
    let lines = c.requires.lines ∙ sym (ap (λ (u : WholeLine g.row.K.Denot). map line_in u.slots) c.self.view_is) in
    let idle = subst (λ (u : WholeLine g.row.K.Denot). (i : ℕ) → i < nodes_of u → (state_of u).steps i ≡ Pending.Idle) (sym c.self.view_is) c.requires.idle in
    subst (λ (u : WholeLine g.row.K.Denot). IsReadOff u record { mem = c.self.inside.memory; memory = c.self.inside.memory_bytes; tags = c.args.tags.items; lines = c.args.lines.items }) c.self.view_is
    (rests (g.K.Keeps.fits c.self.inside.keep c.self.inside.number) c.self.inside.keep c.self.inside.number c.self.inside.memory c.self.inside.tags.items c.self.inside.stages.items c.self.inside.memory_bytes c.self.inside.lines.items c.self.invariant idle c.args.tags.items c.args.lines.items tags lines).read
