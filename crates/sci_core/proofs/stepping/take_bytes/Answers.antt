use Rattle.std.proofs.Common.{rules, ap, slice_set}
use Rattle.std.proofs.lemmas.List.{get_or_default}
use Rattle.sci_core.specs.State.{blank}
use Rattle.sci_core.proofs.stepping.take_bytes.Goals as goal

pub returns-in-Node : goal.returns-in-Node
returns-in-Node c =
    let there = rw c.in-Node.is at c.requires.place in
    λ e. rw (c.in-Node.is, c.place_of-in-Node.ensures, c.place_of-in-Node-2.ensures) (ap (slice_set c.args.lines.now c.args.me) (get_or_default c.args.lines.now c.in-Node.node _ blank there))

pub returns-then-matches : goal.returns-then-matches
returns-then-matches c = search rules
