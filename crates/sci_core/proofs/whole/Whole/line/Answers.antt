use Rattle.std.proofs.Common.{rules, ◌≡◌, ◌<◌, ◌∙◌, ℕ, List, length, get_or, ap, sym, subst, arith}
use Rattle.sci_words.specs.declared.tags.Tag.{Tag}
use Rattle.sci_core.specs.declared.lines.Line.{Line}
use Rattle.sci_core.specs.declared.pending.Pending.{Pending}
use Rattle.sci_core.specs.declared.stages.Stage.{Stage}
use Rattle.sci_core.specs.State.{State, invalid, blank}
use Rattle.sci_core.specs.Copies.{IsCopy, IsCopying}
use Rattle.sci_core.specs.Shape.{kept_line}
use Rattle.sci_core.specs.Hands.{FindsKept}
use Rattle.sci_core.specs.Laid.{seen_whole, slot_of, step_laid}
use Rattle.sci_core.specs.Sharers.{IsValidSharer}
use Rattle.sci_core.specs.Stage.{pending_of}
use Rattle.sci_core.specs.Whole.{WholeLine, state_of}
use Rattle.sci_core.proofs.States.{read_node}
use Rattle.sci_core.proofs.InHand.{line_is, sharer_line_is}
use Rattle.sci_core.proofs.Laying.{node_inside, state_seen}
use Rattle.sci_core.proofs.whole.Whole.line.Goals as goal

pub returns : goal.returns
returns g c =
    let w : WholeLine g.row.K.Denot = seen_whole c.self.inside.keep c.self.inside.number c.self.inside.memory c.self.inside.tags.items c.self.inside.stages.items c.self.inside.memory_bytes c.self.inside.lines.items in
    let seen = state_seen c.self.inside.tags.items c.self.inside.stages.items c.self.inside.lines.items c.self.invariant.of_stages c.self.invariant.of_lines c.self.inside.keep c.self.inside.number c.self.inside.memory c.self.inside.memory_bytes in
    let in_tags : c.args.node < length c.self.inside.tags.items = node_inside c.self.view_is c.requires in
    let place : c.from-place.result ≡ c.args.node = search rules in
    let in_stages : c.args.node < length c.self.inside.stages.items = omega (arith, c.self.invariant.of_stages) in
    let in_lines : c.args.node < length c.self.inside.lines.items = omega (arith, c.self.invariant.of_lines) in
    let tag = read_node c.self.inside.tags.items c.from-place.result c.args.node c.index.result.now invalid place in_tags c.index.ensures in
    let stage = read_node c.self.inside.stages.items c.from-place.result c.args.node c.index-2.result.now Stage.Idle place in_stages c.index-2.ensures in
    let line = read_node c.self.inside.lines.items c.from-place.result c.args.node c.index-3.result.now blank place in_lines c.index-3.ensures in
    let slot : c.at_home.result ≡ (state_of w).slots c.args.node =
    c.at_home.ensures ∙ ap (λ (t : Tag). slot_of t c.index-2.result.now c.index-3.result.now) tag
    ∙ ap (λ (s : Stage). slot_of (get_or c.self.inside.tags.items c.args.node invalid) s c.index-3.result.now) stage
    ∙ ap (λ (l : Line). slot_of (get_or c.self.inside.tags.items c.args.node invalid) (get_or c.self.inside.stages.items c.args.node Stage.Idle) l) line
    ∙ ap (λ (s : State). s.slots c.args.node) (sym seen) in
    let step : c.with.result ≡ (state_of w).steps c.args.node =
    c.with.ensures ∙ ap (λ (s : Stage). pending_of s c.index-3.result.now) stage
    ∙ ap (λ (l : Line). pending_of (get_or c.self.inside.stages.items c.args.node Stage.Idle) l) line
    ∙ ap (λ (s : State). s.steps c.args.node) (sym seen) in
    let own : c.kept_line.result ≡ kept_line ((state_of w).steps c.args.node) = c.kept_line.ensures ∙ ap kept_line step in
    let steps : ◌≡◌ {A = ℕ → Pending} (step_laid c.deref.result.now c.deref-2.result.now) (state_of w).steps =
    ap (λ (s : List Stage). step_laid s c.deref-2.result.now) c.deref.ensures.value ∙ ap (λ (l : List Line). step_laid c.self.inside.stages.items l) c.deref-2.ensures.value ∙ ap (λ (s : State). s.steps) (sym seen) in
    let finds = subst (λ (f : ℕ → Pending). FindsKept (λ p. IsCopying p c.args.node) f c.copied_from.result) steps c.copied_from.ensures in
    let shown : (v : Line) → IsCopy (state_of w) c.args.node v → c.unwrap_or.result ≡ v = line_is (g.K.Keeps.fits w.keep w.number) w c.self.invariant.sound c.args.node c.at_home.result c.kept_line.result c.copied_from.result c.or.result c.or-2.result _ c.unwrap_or.result slot own finds c.or.ensures c.or-2.ensures c.unwrap_or.ensures in
    record {
      copy = subst (λ (u : WholeLine g.row.K.Denot). (v : Line) → IsCopy (state_of u) c.args.node v → c.unwrap_or.result ≡ v) c.self.view_is shown;
      sharer = subst (λ (u : WholeLine g.row.K.Denot). IsValidSharer (state_of u) c.args.node → IsCopy (state_of u) c.args.node c.unwrap_or.result) c.self.view_is
          (sharer_line_is (g.K.Keeps.fits w.keep w.number) w c.self.invariant.sound c.args.node c.unwrap_or.result shown);
    }
