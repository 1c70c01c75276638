use Rattle.std.proofs.Common.{◌≡◌, ◌∙◌, List, replicate, ℕ, ap, refl, sym, subst}
use Rattle.sci_words.specs.declared.tags.Tag.{Tag}
use Rattle.sci_core.specs.declared.lines.Line.{Line}
use Rattle.sci_core.specs.declared.stages.Stage.{Stage}
use Rattle.sci_core.specs.State.{invalid, opened}
use Rattle.sci_core.specs.Run.{HasValue}
use Rattle.sci_core.specs.Laid.{IsLaid, seen_whole}
use Rattle.sci_core.specs.Whole.{WholeLine, opened_whole, state_of}
use Rattle.sci_core.proofs.Lawfully.{opened_value}
use Rattle.sci_core.proofs.Making.{opened_seen, opened_laid}
use Rattle.sci_core.proofs.whole.Whole.open.Goals as goal

-- what holds of the lists as they are filled holds of those that are equal to them
filled : (n : ℕ) (line : Line) (P : List Tag → List Stage → List Line → Type 0) (tags : List Tag) (stages : List Stage) (lines : List Line)
    → tags ≡ replicate n invalid → stages ≡ replicate n Stage.Idle → lines ≡ replicate n line → P (replicate n invalid) (replicate n Stage.Idle) (replicate n line) → P tags stages lines
filled n line P tags stages lines t p l h =
    subst (λ (t : List Tag). P t stages lines) (sym t)
    (subst (λ (p : List Stage). P (replicate n invalid) p lines) (sym p)
    (subst (λ (l : List Line). P (replicate n invalid) (replicate n Stage.Idle) l) (sym l) h))

pub invariant_of-result : goal.invariant_of-result
invariant_of-result g c =
    let good = c.is_node_count.ensures.good c.if-not-is_node_count.false in
    let tags : c.in_ok-tags.tags.items ≡ replicate c.args.nodes invalid = c.in_ok-tags.ensures.items_if_clones_equal (λ y h. h) ∙ ap (λ (k : ℕ). replicate k invalid) c.from-count.ensures in
    let stages : c.in_ok-stages.stages.items ≡ replicate c.args.nodes Stage.Idle = c.in_ok-stages.ensures.items_if_clones_equal (λ y h. h) ∙ ap (λ (k : ℕ). replicate k Stage.Idle) c.from-count.ensures in
    let lines : c.in_ok-lines.lines.items ≡ replicate c.args.nodes c.args.line = c.in_ok-lines.ensures.items_if_clones_equal (λ y h. h) ∙ ap (λ (k : ℕ). replicate k c.args.line) c.from-count.ensures in
    filled c.args.nodes c.args.line (λ t p l. IsLaid (g.K.Keeps.fits c.args.keep c.args.number) c.args.keep c.args.number (opened c.args.nodes c.args.line).memory t p c.args.line l) c.in_ok-tags.tags.items c.in_ok-stages.stages.items c.in_ok-lines.lines.items tags stages lines
    (opened_laid (g.K.Keeps.fits c.args.keep c.args.number) c.args.keep c.args.number c.args.nodes c.args.line good.0 good.1 c.requires)

pub returns-then-not-is_node_count-clause-nodes : goal.returns-then-not-is_node_count-clause-nodes
returns-then-not-is_node_count-clause-nodes g c = (λ h. c.is_node_count.ensures.bad c.if-not-is_node_count.true, λ h. refl)

pub returns-clause-opened : goal.returns-clause-opened
returns-clause-opened g c =
    let tags : c.in_ok-tags.tags.items ≡ replicate c.args.nodes invalid = c.in_ok-tags.ensures.items_if_clones_equal (λ y h. h) ∙ ap (λ (k : ℕ). replicate k invalid) c.from-count.ensures in
    let stages : c.in_ok-stages.stages.items ≡ replicate c.args.nodes Stage.Idle = c.in_ok-stages.ensures.items_if_clones_equal (λ y h. h) ∙ ap (λ (k : ℕ). replicate k Stage.Idle) c.from-count.ensures in
    let lines : c.in_ok-lines.lines.items ≡ replicate c.args.nodes c.args.line = c.in_ok-lines.ensures.items_if_clones_equal (λ y h. h) ∙ ap (λ (k : ℕ). replicate k c.args.line) c.from-count.ensures in
    filled c.args.nodes c.args.line (λ t p l. seen_whole c.args.keep c.args.number (opened c.args.nodes c.args.line).memory t p c.args.line l ≡ opened_whole c.args.keep c.args.number c.args.nodes c.args.line) c.in_ok-tags.tags.items c.in_ok-stages.stages.items c.in_ok-lines.lines.items tags stages lines
    (opened_seen (g.K.Keeps.fits c.args.keep c.args.number) c.args.keep c.args.number c.args.nodes c.args.line)

pub returns-clause-value : goal.returns-clause-value
returns-clause-value g c =
    subst (λ (w : WholeLine g.row.K.Denot). HasValue c.args.nodes (g.K.Keeps.fits c.args.keep c.args.number) (state_of w) c.args.line) (sym (returns-clause-opened g c))
    (opened_value (g.K.Keeps.fits c.args.keep c.args.number) c.args.keep c.args.number c.args.nodes c.args.line c.requires)
