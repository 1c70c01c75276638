use Rattle.std.proofs.Common.{◌+◌, [], ◌∷◌, ◌++◌, sym, subst, arith}
use Rattle.sci_words.specs.declared.tags.Tag.{Tag}
use Rattle.sci_serve.proofs.Listing.{Listed, listed_more, listed_end, listed_full}
use Rattle.sci_serve.proofs.verdicts.entries.Goals as goal

pub returns-in_default : goal.returns-in_default
returns-in_default c = λ nodes e.
    let l = rw c.in_default.is at c.loop.invariant in
    listed_end c.args.closed.now c.loop.entries.items c.loop.counter l nodes e

pub loop-preserved : goal.loop-preserved
loop-preserved c =
    let l = rw c.in-Some.is at c.loop.invariant in
    let node = c.in-Some.node in
    rw c.in_ok-push.ensures.items
    (subst (λ (t : Tag). Listed c.args.closed.now (c.loop.entries.items ++ (node, t) ∷ []) (c.loop.counter + 1) t.forw) (sym c.tag_of-tag.ensures)
    (listed_more c.args.closed.now c.loop.entries.items c.loop.counter node l))

pub returns : goal.returns
returns c = λ nodes e. listed_full c.args.closed.now c.loop.entries.items c.loop.counter c.loop.next (omega arith) c.loop.invariant nodes e
