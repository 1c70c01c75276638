use Rattle.std.proofs.Common.{◌≡◌, ℕ, ◌*◌, ◌∙◌, List, arith, ap, sym, subst}
use Rattle.sci_work.specs.declared.facts.stencil.StencilFact.{StencilFact}
use Rattle.sci_work.specs.declared.programs.Program.{Program}
use Rattle.sci_work.specs.Starts.{AreParts}
use Rattle.sci_work.specs.Stencil.{FitsStencil}
use Rattle.sci_work.proofs.Opening.{parts_of}
use Rattle.sci_work.proofs.Sharing.{is_work}
use Rattle.sci_work.proofs.Showing.{zeros_fit}
use Rattle.sci_work_tests.proofs.receipts.left.Goals as goal

-- what the fact says of a line
abbrev says : StencilFact → ℕ → List ℕ → Type 0
says fact line words = FitsStencil fact.cells.now fact.phases line words

pub opened-requires-clause-fits : goal.opened-requires-clause-fits
opened-requires-clause-fits g c = zeros_fit c.new-fact.result.cells.now c.new-fact.result.phases

pub run_all-requires-after_bounds : goal.run_all-requires-after_bounds
run_all-requires-after_bounds g c κs within =
    let work = c.args.work in let fact = c.new-fact.result in let made = c.in_ok-lines.ensures in
    let parts = parts_of says c.args.recording work.nodes fact (2 * work.tiles) (Program.Stencil work) c.in_ok-lines.lines.items c.in_ok-lines.hands
    (omega (arith, made.count, c.in_ok-lines.lines.ok)) (omega (arith, c.requires.tiles)) (omega (arith, c.requires.tiles)) made.lines made.len c.requires.nodes.1 made.hands
    (λ k near. (is_work fact.cells.now work.cells.now fact.phases work.phases work.tiles (ap (λ (s : _). s.now) c.new-fact.ensures.cells) c.new-fact.ensures.phases c.requires.whole c.requires.tiles.1 c.requires.phases, near, c.requires.nodes.1)) in
    subst (λ (ls : List _). AreParts says c.args.recording ls (Program.Stencil work) c.in_ok-lines.hands) (sym c.deref.ensures.value) parts
