use Rattle.std.proofs.Common.{◌≡◌, ◌-◌, ◌+◌, [], ◌∷◌, length, arith, refl, length-append}
use Rattle.std.proofs.lemmas.List.Elements.{All-push}
use Rattle.std.proofs.lemmas.Result.{err_from_is_err_and}
use Rattle.sci_histories.specs.Reading.{lines_at}
use Rattle.sci_histories.proofs.Looping.{line_more, line_fault, lines_done}
use Rattle.sci_histories.proofs.reader.read_lines.Goals as goal

pub returns-in_err-found-clause-exact : goal.returns-in_err-found-clause-exact
returns-in_err-found-clause-exact c =
    let p = err_from_is_err_and c.from_residual-in_err-found.result c.from_residual-in_err-found.ensures.1 in
    rw (p.1, p.2) (line_fault c.in_err-found.field-0.0 c.loop-line.lines.items c.loop-line.line (c.args.count - c.loop-line.line) (c.args.count - (c.loop-line.line + 1)) c.args.nodes c.loop-line.number c.loop-line.rest.now (lines_at 0 c.args.count c.args.nodes 2 c.args.text.now) (omega (arith, c.loop-line-test.true)) c.in_err-found.ensures.exact c.loop-line.invariant.left)

pub loop-line-preserved : goal.loop-line-preserved
loop-line-preserved c =
    record {
      left = rw c.in_ok-push.ensures.items
          (line_more c.loop-line.lines.items c.loop-line.line (c.args.count - c.loop-line.line) (c.args.count - (c.loop-line.line + 1)) c.args.nodes c.loop-line.number c.loop-line.rest.now (c.in_ok-found.found.line, c.in_ok-found.found.number, c.in_ok-found.found.rest.now) (lines_at 0 c.args.count c.args.nodes 2 c.args.text.now) (omega (arith, c.loop-line-test.true)) c.in_ok-found.ensures.exact c.loop-line.invariant.left);
      each = rw c.in_ok-push.ensures.items (All-push (λ h. length h.lists ≡ c.args.nodes) c.loop-line.lines.items c.in_ok-found.found.line c.loop-line.invariant.each c.in_ok-found.ensures.nodes);
      count = rw (c.in_ok-push.ensures.items, length-append c.loop-line.lines.items (c.in_ok-found.found.line ∷ []), c.loop-line.invariant.count) refl;
    }

pub returns-clause-exact : goal.returns-clause-exact
returns-clause-exact c = lines_done c.loop-line.lines.items c.loop-line.line (c.args.count - c.loop-line.line) c.args.nodes c.loop-line.number c.loop-line.rest.now (lines_at 0 c.args.count c.args.nodes 2 c.args.text.now) (omega (arith, c.loop-line-test.false)) c.loop-line.invariant.left
