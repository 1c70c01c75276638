use Rattle.std.proofs.Common.{◌≡◌, ◌+◌, length, sym, subst, arith}
use Rattle.sci_words.specs.declared.tags.Tag.{Tag}
use Rattle.sci_dump.specs.Rules.{tag}
use Rattle.sci_dump.proofs.Walks.{Sought, sought_more, sought_found, sought_end, sought_long}
use Rattle.sci_dump.proofs.checking.is_on_chain.Goals as goal

pub returns-in_default : goal.returns-in_default
returns-in_default c = λ nodes e.
    let w = rw c.in_default.is at c.loop.invariant in
    sought_end (λ i. (tag c.args.closed.now i).forw) c.args.closed.now.mem.forw c.args.wanted c.loop.counter nodes w e.path

pub returns-then-number_of-wanted : goal.returns-then-number_of-wanted
returns-then-number_of-wanted c = λ nodes e.
    let w = rw c.in-Some.is at c.loop.invariant in
    sought_found (λ i. (tag c.args.closed.now i).forw) c.args.closed.now.mem.forw c.args.wanted c.loop.counter c.in-Some.node nodes w (omega arith) e.path

pub loop-preserved : goal.loop-preserved
loop-preserved c =
    let w = rw c.in-Some.is at c.loop.invariant in
    let next : c.tag_of-next.result ≡ tag c.args.closed.now c.in-Some.node = rw c.number_of-place.ensures at c.tag_of-next.ensures in
    subst (λ (t : Tag). Sought (λ i. (tag c.args.closed.now i).forw) c.args.closed.now.mem.forw c.args.wanted (c.loop.counter + 1) t.forw) (sym next)
    (sought_more (λ i. (tag c.args.closed.now i).forw) c.args.closed.now.mem.forw c.args.wanted c.loop.counter c.in-Some.node w (λ same. omega (arith, same)))

pub returns : goal.returns
returns c = λ nodes e.
    sought_long (length c.args.closed.now.tags) c.args.closed.now.mem (tag c.args.closed.now) c.args.wanted c.loop.counter c.loop.next nodes (omega arith) c.loop.invariant e
