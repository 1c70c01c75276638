use Rattle.std.proofs.Common.{arith, ◌-◌, ◌+◌, ◌≡◌, true, [], ◌∷◌, refl, ◌∙◌, length-append}
use Rattle.std.proofs.lemmas.List.Elements.{All-push, All-nil}
use Rattle.sci_words.specs.Tag.{tag_well_formed}
use Rattle.sci_dump.specs.Reading.{entries_at}
use Rattle.sci_dump.proofs.Looping.{nodes_begin, node_more, node_fault, nodes_done}
use Rattle.sci_dump.proofs.reader.read_entries.Goals as goal

pub loop-node-init : goal.loop-node-init
loop-node-init c =
    record {
      left = rw (c.in_ok-tags.ensures.items, c.in_ok-lines.ensures.items) (nodes_begin c.args.layout c.args.line (c.args.nodes - 0) c.args.nodes c.args.number c.args.text.now (omega arith));
      well_formed = rw c.in_ok-tags.ensures.items (All-nil (λ t. tag_well_formed t ≡ true));
      tags = rw c.in_ok-tags.ensures.items refl;
      lines = rw c.in_ok-lines.ensures.items refl;
      near = omega arith;
    }

pub entry-requires : goal.entry-requires
entry-requires c = omega (arith, c.loop-node.invariant.near, c.loop-node-test.true, c.requires.few, c.requires.near)

pub returns-in_default-clause-exact : goal.returns-in_default-clause-exact
returns-in_default-clause-exact c =
    node_fault c.args.layout c.loop-node.tags.items c.loop-node.lines.items c.args.line c.loop-node.node (c.args.nodes - c.loop-node.node) (c.args.nodes - (c.loop-node.node + 1)) c.loop-node.at c.loop-node.rest.now
    (entries_at c.args.layout c.args.line 0 c.args.nodes c.args.number c.args.text.now) (omega (arith, c.loop-node-test.true)) c.in_default.ensures.exact c.loop-node.invariant.left

pub loop-node-preserved : goal.loop-node-preserved
loop-node-preserved c =
    record {
      left = rw (c.in_ok-push.ensures.items, c.in_ok-push-2.ensures.items)
          (node_more c.args.layout c.loop-node.tags.items c.loop-node.lines.items c.args.line c.loop-node.node (c.args.nodes - c.loop-node.node) (c.args.nodes - (c.loop-node.node + 1)) c.loop-node.at c.loop-node.rest.now
          (c.in-Some.tag, c.in-Some.content, c.in-Some.next, c.in-Some.behind.now) (entries_at c.args.layout c.args.line 0 c.args.nodes c.args.number c.args.text.now) (omega (arith, c.loop-node-test.true))
          c.in-Some.ensures.exact c.loop-node.invariant.left);
      well_formed = rw c.in_ok-push.ensures.items (All-push (λ t. tag_well_formed t ≡ true) c.loop-node.tags.items c.in-Some.tag c.loop-node.invariant.well_formed c.in-Some.ensures.well_formed);
      tags = rw (c.in_ok-push.ensures.items, length-append c.loop-node.tags.items (c.in-Some.tag ∷ []), c.loop-node.invariant.tags) refl;
      lines = rw (c.in_ok-push-2.ensures.items, length-append c.loop-node.lines.items (c.in-Some.content ∷ []), c.loop-node.invariant.lines) refl;
      near = omega (arith, c.in-Some.ensures.further, c.loop-node.invariant.near);
    }

pub returns-clause-exact : goal.returns-clause-exact
returns-clause-exact c =
    nodes_done c.args.layout c.loop-node.tags.items c.loop-node.lines.items c.args.line c.loop-node.node (c.args.nodes - c.loop-node.node) c.loop-node.at c.loop-node.rest.now
    (entries_at c.args.layout c.args.line 0 c.args.nodes c.args.number c.args.text.now) (omega (arith, c.loop-node-test.false)) c.loop-node.invariant.left

pub returns-clause-well_formed : goal.returns-clause-well_formed
returns-clause-well_formed c = c.loop-node.invariant.well_formed

pub returns-clause-lengths : goal.returns-clause-lengths
returns-clause-lengths c =
    let all : c.loop-node.node ≡ c.args.nodes = omega (arith, c.loop-node-test.false, c.loop-node.auto.node-end) in
    (c.loop-node.invariant.tags ∙ all, c.loop-node.invariant.lines ∙ all)

pub returns-clause-further : goal.returns-clause-further
returns-clause-further c = omega (arith, c.loop-node.invariant.near, c.loop-node.auto.node-end)
