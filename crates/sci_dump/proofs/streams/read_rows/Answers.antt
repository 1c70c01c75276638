use Rattle.std.proofs.Common.{arith, ap, ℕ, sym, List, ◌≡◌, ◌-◌, ◌+◌, ◌∷◌, [], Some, true, ◌∙◌, refl, length-append}
use Rattle.std.proofs.lemmas.List.Elements.{All-push}
use Rattle.sci_words.specs.declared.tags.Tag.{Tag}
use Rattle.sci_words.specs.Tag.{tag_well_formed}
use Rattle.sci_core.specs.declared.lines.Line.{Line}
use Rattle.sci_dump.specs.declared.places.DumpPlace.TheVariants.{Line as InLine}
use Rattle.sci_dump.specs.Reading.{entry_at, entries_at}
use Rattle.sci_dump.specs.Streams.{from_line, HoldsRow}
use Rattle.sci_dump.proofs.Looping.{node_more, node_fault, nodes_done}
use Rattle.sci_dump.proofs.Streaming.{no_entry_line, entry_line, entry_kept}
use Rattle.sci_dump.proofs.streams.read_rows.Goals as goal
use Rattle.sci_dump.proofs.streams.read_rows.Goals.{then-next-number+in_ok-advance, else-next-number}

pub returns-in_default-clause-exact : goal.returns-in_default-clause-exact
returns-in_default-clause-exact g c = λ text head h.
    let (held, left) = c.loop-node.invariant.left text head h in
    let rest : List ℕ = from_line c.loop-node.row.number text in (
      node_fault c.args.head.layout c.loop-node.tags.items c.loop-node.lines.items c.args.closed c.loop-node.node (c.args.head.nodes - c.loop-node.node) (c.args.head.nodes - (c.loop-node.node + 1)) c.loop-node.row.number rest
          (entries_at c.args.head.layout c.args.closed 0 c.args.head.nodes c.args.first.number (from_line c.args.first.number text)) (omega (arith, c.loop-node-test.true))
          (no_entry_line c.args.head.layout c.args.closed c.loop-node.node c.loop-node.row.number rest c.loop-node.row.text.items held.0.2 (ap (entry_at c.args.head.layout c.args.closed c.loop-node.node c.loop-node.row.number) (sym c.deref.ensures.value) ∙ c.in_default.ensures.exact)) left,
      held.0,
    )

pub loop-node-preserved : goal.loop-node-preserved
loop-node-preserved g c =
    record {
      left = λ text head h.
          let (held, left) = c.loop-node.invariant.left text head h in
          let row = c.loop-node.row in
          let entry : Tag × Line × ℕ × List ℕ = (c.in-Some.tag, c.in-Some.content, c.in-Some.next, c.in-Some.field-0-3.now) in
          let is = ap (entry_at c.args.head.layout c.args.closed c.loop-node.node row.number) (sym c.deref.ensures.value) ∙ c.in-Some.ensures.exact in
          let after : HoldsRow text c.if-next-number.row (g.R.Read.remaining c.if-next-number.reader)
          × (entry_at c.args.head.layout c.args.closed c.loop-node.node row.number (from_line row.number text) ≡ Some (entry.0, entry.1, c.if-next-number.row.number, from_line c.if-next-number.row.number text)) =
          elim c.if-next-number.branch [
            | then-next-number+in_ok-advance w ↦
                rw (w.row-is, w.reader-is)
                (entry_line c.args.head.layout c.args.head c.args.closed c.loop-node.node text entry row (record { number = entry.2; text = w.in_ok-advance.field-0; place = InLine c.args.head c.args.closed (c.loop-node.node + 1) }) (g.R.Read.remaining c.loop-node.reader) (g.R.Read.remaining w.advance.new.reader) refl head held is w.if-next-number.true refl refl w.in_ok-advance.ensures.ok)
            | else-next-number w ↦ rw (w.row-is, w.reader-is) (held, entry_kept c.args.head.layout c.args.closed c.loop-node.node text entry row held.0 is w.if-next-number.false)
          ] in (
            after.0,
            rw (c.in_ok-push.ensures.items, c.in_ok-push-2.ensures.items)
                (node_more c.args.head.layout c.loop-node.tags.items c.loop-node.lines.items c.args.closed c.loop-node.node (c.args.head.nodes - c.loop-node.node) (c.args.head.nodes - (c.loop-node.node + 1)) row.number (from_line row.number text)
                (entry.0, entry.1, c.if-next-number.row.number, from_line c.if-next-number.row.number text) (entries_at c.args.head.layout c.args.closed 0 c.args.head.nodes c.args.first.number (from_line c.args.first.number text)) (omega (arith, c.loop-node-test.true)) after.1 left),
          );
      well_formed = rw c.in_ok-push.ensures.items (All-push (λ t. tag_well_formed t ≡ true) c.loop-node.tags.items c.in-Some.tag c.loop-node.invariant.well_formed c.in-Some.ensures.well_formed);
      tags = rw (c.in_ok-push.ensures.items, length-append c.loop-node.tags.items (c.in-Some.tag ∷ []), c.loop-node.invariant.tags) refl;
      lines = rw (c.in_ok-push-2.ensures.items, length-append c.loop-node.lines.items (c.in-Some.content ∷ []), c.loop-node.invariant.lines) refl;
      near = elim c.if-next-number.branch [
        | then-next-number+in_ok-advance w ↦ rw w.row-is (omega (arith, c.in-Some.ensures.further, c.loop-node.invariant.near))
        | else-next-number w ↦ rw w.row-is (omega (arith, c.loop-node.invariant.near))
      ];
    }

pub returns-clause-exact : goal.returns-clause-exact
returns-clause-exact g c = λ text head h.
    let (held, left) = c.loop-node.invariant.left text head h in (
      nodes_done c.args.head.layout c.loop-node.tags.items c.loop-node.lines.items c.args.closed c.loop-node.node (c.args.head.nodes - c.loop-node.node) c.loop-node.row.number (from_line c.loop-node.row.number text)
          (entries_at c.args.head.layout c.args.closed 0 c.args.head.nodes c.args.first.number (from_line c.args.first.number text)) (omega (arith, c.loop-node-test.false)) left,
      held,
    )
