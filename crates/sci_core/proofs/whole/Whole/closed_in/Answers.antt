use Rattle.std.proofs.Common.{◌≡◌, ◌∙◌, ℕ, ◌<◌, length, map, sym, subst, ap, arith}
use Rattle.sci_words.specs.declared.tags.Tag.{Tag}
use Rattle.sci_core.specs.declared.lines.Line.{Line}
use Rattle.sci_core.specs.declared.pending.Pending.{Pending}
use Rattle.sci_core.specs.Step.{line_in}
use Rattle.sci_core.specs.Whole.{WholeLine, nodes_of, state_of}
use Rattle.sci_core.proofs.Resting.{rest_lines}
use Rattle.sci_core.proofs.whole.Whole.closed_in.Goals as goal

pub copied_into-tags-requires-clause-enough : goal.copied_into-tags-requires-clause-enough
copied_into-tags-requires-clause-enough g c =
    let count : length c.self.inside.tags.items ≡ nodes_of c.args.self.now = ap (λ (u : WholeLine g.row.K.Denot). nodes_of u) c.self.view_is in
    let there : length c.deref.result.now ≡ length c.self.inside.tags.items = ap (length {A = Tag}) c.deref.ensures.value in
    omega (arith, c.requires.tag_room)

pub copied_into-lines-requires-clause-enough : goal.copied_into-lines-requires-clause-enough
copied_into-lines-requires-clause-enough g c =
    let count : length c.self.inside.tags.items ≡ nodes_of c.args.self.now = ap (λ (u : WholeLine g.row.K.Denot). nodes_of u) c.self.view_is in
    let there : length c.deref-2.result.now ≡ length c.self.inside.lines.items = ap (length {A = Line}) c.deref-2.ensures.value in
    omega (arith, c.requires.line_room, c.self.invariant.of_lines)

pub read_off-requires-clause-tags : goal.read_off-requires-clause-tags
read_off-requires-clause-tags g c = c.copied_into-tags.ensures ∙ c.deref.ensures.value ∙ ap (λ (u : WholeLine g.row.K.Denot). u.tags) c.self.view_is

pub read_off-requires-clause-lines : goal.read_off-requires-clause-lines
read_off-requires-clause-lines g c =
    let idle = subst (λ (u : WholeLine g.row.K.Denot). (i : ℕ) → i < nodes_of u → (state_of u).steps i ≡ Pending.Idle) (sym c.self.view_is) c.requires.idle in
    c.copied_into-lines.ensures ∙ c.deref-2.ensures.value ∙ rest_lines (g.K.Keeps.fits c.self.inside.keep c.self.inside.number) c.self.inside.keep c.self.inside.number c.self.inside.memory c.self.inside.tags.items c.self.inside.stages.items c.self.inside.memory_bytes c.self.inside.lines.items c.self.invariant idle ∙ ap (λ (u : WholeLine g.row.K.Denot). map line_in u.slots) c.self.view_is
