use Rattle.std.proofs.Common.{◌≡◌, drop}
use Rattle.sci_script.specs.Openings.{content_of, zeros}
use Rattle.sci_script.proofs.commands.Script.opening.Given as goal

abbrev pub invariant-loop-opening : goal.invariant-loop-opening
invariant-loop-opening l =
    content_of l.line l.content (drop l.opening-index l.self.openings.items) ≡ content_of l.line zeros l.self.openings.items
