use Rattle.std.proofs.Common.{arith, ◌≡◌, ◌-◌, ◌+◌, [], ◌∷◌, length, refl, ◌∙◌, length-append}
use Rattle.std.proofs.lemmas.List.Elements.{All-push, All-nil}
use Rattle.std.proofs.lemmas.Result.{err_from_is_err_and}
use Rattle.sci_dump.specs.Reading.{lines_at}
use Rattle.sci_dump.proofs.Looping.{lines_begin, line_more, line_fault, lines_done}
use Rattle.sci_dump.proofs.reader.read_lines.Goals as goal

pub loop-line-init : goal.loop-line-init
loop-line-init c =
    record {
      left = rw c.in_ok-lines.ensures.items (lines_begin c.args.layout (c.args.count - 0) c.args.count c.args.nodes c.args.text.now (omega arith));
      each = rw c.in_ok-lines.ensures.items (All-nil (λ x. length x.tags ≡ c.args.nodes));
      count = rw c.in_ok-lines.ensures.items refl;
      near = omega arith;
    }

pub read_closed-requires-clause-near : goal.read_closed-requires-clause-near
read_closed-requires-clause-near c = omega (arith, c.loop-line.invariant.near, c.loop-line-test.true, c.requires.count)

pub returns-in_err-found-clause-exact : goal.returns-in_err-found-clause-exact
returns-in_err-found-clause-exact c =
    let p = err_from_is_err_and c.from_residual-in_err-found.result c.from_residual-in_err-found.ensures.1 in
    rw (p.1, p.2) (line_fault c.args.layout c.in_err-found.field-0.0 c.loop-line.lines.items c.loop-line.line (c.args.count - c.loop-line.line) (c.args.count - (c.loop-line.line + 1)) c.args.nodes c.loop-line.number c.loop-line.rest.now
    (lines_at c.args.layout 0 c.args.count c.args.nodes 2 c.args.text.now) (omega (arith, c.loop-line-test.true)) c.in_err-found.ensures.exact c.loop-line.invariant.left)

pub loop-line-preserved : goal.loop-line-preserved
loop-line-preserved c =
    record {
      left = rw c.in_ok-push.ensures.items
          (line_more c.args.layout c.loop-line.lines.items c.loop-line.line (c.args.count - c.loop-line.line) (c.args.count - (c.loop-line.line + 1)) c.args.nodes c.loop-line.number c.loop-line.rest.now
          (c.in_ok-found.found.closed, c.in_ok-found.found.number, c.in_ok-found.found.rest.now) (lines_at c.args.layout 0 c.args.count c.args.nodes 2 c.args.text.now) (omega (arith, c.loop-line-test.true))
          c.in_ok-found.ensures.exact c.loop-line.invariant.left);
      each = rw c.in_ok-push.ensures.items (All-push (λ x. length x.tags ≡ c.args.nodes) c.loop-line.lines.items c.in_ok-found.found.closed c.loop-line.invariant.each c.in_ok-found.ensures.nodes);
      count = rw (c.in_ok-push.ensures.items, length-append c.loop-line.lines.items (c.in_ok-found.found.closed ∷ []), c.loop-line.invariant.count) refl;
      near = omega (arith, c.in_ok-found.ensures.further, c.loop-line.invariant.near, c.requires.nodes);
    }

pub returns-clause-exact : goal.returns-clause-exact
returns-clause-exact c =
    lines_done c.args.layout c.loop-line.lines.items c.loop-line.line (c.args.count - c.loop-line.line) c.args.nodes c.loop-line.number c.loop-line.rest.now
    (lines_at c.args.layout 0 c.args.count c.args.nodes 2 c.args.text.now) (omega (arith, c.loop-line-test.false)) c.loop-line.invariant.left

pub returns-clause-nodes : goal.returns-clause-nodes
returns-clause-nodes c = c.loop-line.invariant.each

pub returns-clause-count : goal.returns-clause-count
returns-clause-count c =
    let all : c.loop-line.line ≡ c.args.count = omega (arith, c.loop-line-test.false, c.loop-line.auto.line-end) in c.loop-line.invariant.count ∙ all

pub returns-clause-near : goal.returns-clause-near
returns-clause-near c = omega (arith, c.loop-line.invariant.near, c.loop-line.auto.line-end, c.requires.count)
