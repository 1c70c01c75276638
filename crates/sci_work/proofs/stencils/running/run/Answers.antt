use Rattle.std.proofs.Common.{ℕ, ◌*◌, List, arith, ap, sym, subst}
use Rattle.std.proofs.lemmas.Result.{IfOk-weaker}
use Rattle.sci_work.specs.declared.facts.stencil.StencilFact.{StencilFact}
use Rattle.sci_work.specs.declared.programs.Program.{Program}
use Rattle.sci_work.specs.Ended.{AreClosed, AreKept}
use Rattle.sci_work.specs.Hands.{IsHandOf}
use Rattle.sci_work.specs.Programs.{AreWritesOf}
use Rattle.sci_work.specs.Starts.{AreParts}
use Rattle.sci_work.specs.Stencil.{FitsStencil}
use Rattle.sci_work.proofs.Closing.{closed_under, kept_under, nodes_under, written_by}
use Rattle.sci_work.proofs.Opening.{parts_of}
use Rattle.sci_work.proofs.Residual.{both_ok}
use Rattle.sci_work.proofs.Sharing.{is_work}
use Rattle.sci_work.proofs.Showing.{zeros_fit}
use Rattle.sci_work.proofs.stencils.running.run.Goals as goal

-- what the fact says of a line
abbrev says : StencilFact → ℕ → List ℕ → Type 0
says fact line words = FitsStencil fact.cells.now fact.phases line words

pub opened-requires-clause-fits : goal.opened-requires-clause-fits
opened-requires-clause-fits g c = zeros_fit c.new-fact.result.cells.now c.new-fact.result.phases

pub run_all-requires-after_bounds : goal.run_all-requires-after_bounds
run_all-requires-after_bounds g c κs within =
    let work = c.args.work in let fact = c.new-fact.result in let made = c.in_ok-lines.ensures in
    let parts = parts_of says c.args.recording work.nodes fact (2 * work.tiles) (Program.Stencil work) c.in_ok-lines.lines.items c.in_ok-lines.hands
    (omega (arith, made.count, c.in_ok-lines.lines.ok)) (omega (arith, c.requires.tiles)) (omega (arith, c.requires.tiles)) made.lines made.len c.requires.nodes.1 made.hands
    (λ k near. (is_work fact.cells.now work.cells.now fact.phases work.phases work.tiles (ap (λ (s : _). s.now) c.new-fact.ensures.cells) c.new-fact.ensures.phases c.requires.whole c.requires.tiles.1 c.requires.phases, near, c.requires.nodes.1)) in
    subst (λ (ls : List _). AreParts says c.args.recording ls (Program.Stencil work) c.in_ok-lines.hands) (sym c.deref.ensures.value) parts

pub ended-requires-clause-shares : goal.ended-requires-clause-shares
ended-requires-clause-shares g c k x at tile j low mine small = c.in_ok-hands.ensures.ok.shares_are k x at tile j low mine small

pub ended-requires-clause-hands : goal.ended-requires-clause-hands
ended-requires-clause-hands g c k x at = subst (λ (ls : List _). IsHandOf c.args.recording ls k x.items) c.deref.ensures.value (c.in_ok-hands.ensures.ok.hands_are k x at)

pub returns-clause-closed : goal.returns-clause-closed
returns-clause-closed g c =
    let work = c.args.work in let fact = c.new-fact.result in let made = c.in_ok-lines.ensures in
    IfOk-weaker c.ended.result _ _ (λ r done.
    let closed = closed_under says work.nodes fact (2 * work.tiles) c.in_ok-lines.lines.items r.1.lines.items (omega (arith, made.count, c.in_ok-lines.lines.ok)) made.lines done in
    let cells = subst (λ (xs : List ℕ). AreClosed (FitsStencil xs fact.phases) (2 * work.tiles) r.1.lines.items) (ap (λ (s : _). s.now) c.new-fact.ensures.cells) closed in
    subst (λ (p : ℕ). AreClosed (FitsStencil work.cells.now p) (2 * work.tiles) r.1.lines.items) c.new-fact.ensures.phases cells) c.ended.ensures.closed

pub returns-clause-nodes : goal.returns-clause-nodes
returns-clause-nodes g c =
    IfOk-weaker c.ended.result _ _ (λ r done. nodes_under says c.args.work.nodes c.new-fact.result c.in_ok-lines.lines.items r.1.lines.items c.in_ok-lines.ensures.lines done) c.ended.ensures.closed

pub returns-clause-wrote : goal.returns-clause-wrote
returns-clause-wrote g c =
    both_ok c.ended.result _ _ _ (λ r kept own. written_by (λ node line list. AreWritesOf (Program.Stencil c.args.work) node line list) says c.args.recording c.in_ok-lines.lines.items c.in_ok-hands.hands.items r.1 c.in_ok-hands.ensures.ok.end kept own)
    c.ended.ensures.kept c.ended.ensures.own

pub returns-clause-kept : goal.returns-clause-kept
returns-clause-kept g c =
    let work = c.args.work in let fact = c.new-fact.result in let made = c.in_ok-lines.ensures in
    both_ok c.ended.result _ _ _ (λ r done all.
    let kept = kept_under says c.args.recording work.nodes fact c.in_ok-lines.lines.items r.1 made.lines made.zeros done all in
    let cells = subst (λ (xs : List ℕ). AreKept c.args.recording (FitsStencil xs fact.phases) work.nodes r.1) (ap (λ (s : _). s.now) c.new-fact.ensures.cells) kept in
    subst (λ (p : ℕ). AreKept c.args.recording (FitsStencil work.cells.now p) work.nodes r.1) c.new-fact.ensures.phases cells) c.ended.ensures.closed c.ended.ensures.kept
