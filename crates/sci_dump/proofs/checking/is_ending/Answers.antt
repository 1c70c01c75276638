use Rattle.std.proofs.Common.{◌≡◌, ◌+◌, length, sym, subst, arith}
use Rattle.sci_words.specs.declared.tags.Tag.{Tag}
use Rattle.sci_dump.specs.Rules.{tag}
use Rattle.sci_dump.proofs.Walks.{Walked, walked_more, walked_end, walked_out}
use Rattle.sci_dump.proofs.Deciding.{ends_or_not}
use Rattle.sci_dump.proofs.checking.is_ending.Goals as goal

pub returns-in_default : goal.returns-in_default
returns-in_default c =
    let w = rw c.in_default.is at c.loop.invariant in
    walked_end (length c.args.closed.now.tags) c.args.closed.now.mem (tag c.args.closed.now) c.loop.counter w

pub returns-then-number_of-nodes_of : goal.returns-then-number_of-nodes_of
returns-then-number_of-nodes_of c = λ ends.
    let w = rw c.in-Some.is at c.loop.invariant in
    walked_out (length c.args.closed.now.tags) c.args.closed.now.mem (tag c.args.closed.now) c.loop.counter c.in-Some.node w (omega arith) ends.0 ends.1

pub loop-preserved : goal.loop-preserved
loop-preserved c =
    let w = rw c.in-Some.is at c.loop.invariant in
    let next : c.tag_of-next.result ≡ tag c.args.closed.now c.in-Some.node = rw c.number_of-place.ensures at c.tag_of-next.ensures in
    subst (λ (t : Tag). Walked (length c.args.closed.now.tags) (λ i. (tag c.args.closed.now i).forw) c.args.closed.now.mem.forw (c.loop.counter + 1) t.forw) (sym next)
    (walked_more (length c.args.closed.now.tags) (λ i. (tag c.args.closed.now i).forw) c.args.closed.now.mem.forw c.loop.counter c.in-Some.node w (omega arith))

pub returns : goal.returns
returns c = ends_or_not c.args.closed.now c.loop.counter c.loop.next c.is_none.result (omega arith) c.is_none.ensures c.loop.invariant
