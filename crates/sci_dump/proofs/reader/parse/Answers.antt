use Rattle.std.proofs.Common.{◌≡◌, ℕ, List, Some, Ok, refl}
use Rattle.sci_words.specs.declared.layouts.Layout.{Layout}
use Rattle.sci_core.specs.Closed.{ClosedLine}
use Rattle.sci_dump.specs.Reading.{head_at, lines_at, end_at, dump_of}
use Rattle.sci_dump.proofs.reader.parse.Goals as goal

all_read : (text rest more : List ℕ) (layout : Layout) (nodes count number : ℕ) (lines : List ClosedLine) → head_at text ≡ Some (layout, nodes, count, rest) → lines_at layout 0 count nodes 2 rest ≡ Ok (lines, number, more) → end_at number more ≡ Ok tt → dump_of text ≡ Ok (record { nodes = nodes; lines = lines })
unfolding dump_of
all_read text rest more layout nodes count number lines h l e = rw (h, l, e) refl

pub returns : goal.returns
returns c = all_read c.args.text.now c.in-Some.rest.now c.in_ok-front.front.rest.now c.in-Some.layout c.in-Some.nodes c.in-Some.count c.in_ok-front.front.number c.in_ok-front.front.lines.items c.in-Some.ensures.exact c.in_ok-front.ensures.exact c.in_ok-end.ensures
