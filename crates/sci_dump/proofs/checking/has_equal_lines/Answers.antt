use Rattle.std.proofs.Common.{arith}
use Rattle.sci_dump.proofs.Deciding.{not_equal, none_equal, each_more, equal, invalid_shared, IsSharedBy}
use Rattle.sci_dump.proofs.checking.has_equal_lines.Goals.{in-Gone, in_default-matches, else-is_sharer-via-then-is_sharer+else-not-is_same-2, else-is_sharer-via-else-is_sharer, else-not-is_gone-via-then-not-is_gone+else-not-is_same, else-not-is_gone-via-else-not-is_gone}
use Rattle.sci_dump.proofs.checking.has_equal_lines.Goals as goal

pub returns-then-not-is_same-2 : goal.returns-then-not-is_same-2
returns-then-not-is_same-2 c =
    not_equal c.args.closed.now c.loop-node.node c.in-Some.head c.tag_of.result c.line_of.result c.line_of-shared.result c.tag_of.ensures c.line_of.ensures
    (rw c.number_of.ensures at c.line_of-shared.ensures) (rw c.word_of.ensures at c.in-Some.is) (omega (arith, c.loop-node-test.true, c.nodes_of-node-end.ensures)) c.if-is_sharer.ensures c.if-not-is_same-2.ensures

pub returns-in_default : goal.returns-in_default
returns-in_default c = λ nodes e l. none_equal c.args.closed.now (rw c.word_of.ensures at c.in_default.is) nodes e

pub loop-node-init : goal.loop-node-init
loop-node-init c = λ i lt. absurd (omega (arith, lt))

pub loop-node-preserved : goal.loop-node-preserved
loop-node-preserved c =
    each_more (IsSharedBy c.args.closed.now c.line_of-shared.result) c.loop-node.node c.loop-node.invariant
    (elim c.else-is_sharer.branch [
      | else-is_sharer-via-then-is_sharer+else-not-is_same-2 w ↦ λ sharer. rw w.line_of.ensures at w.if-not-is_same-2.ensures
      | else-is_sharer-via-else-is_sharer w ↦ invalid_shared c.args.closed.now c.loop-node.node c.tag_of.result c.line_of-shared.result c.tag_of.ensures w.if-is_sharer.ensures
    ])

pub returns : goal.returns
returns c =
    equal c.args.closed.now c.line_of-shared.result
    (elim c.else-not-is_gone.branch [
      | else-not-is_gone-via-then-not-is_gone+else-not-is_same w ↦ λ _. rw w.memory_of.ensures at w.if-not-is_same.ensures
      | else-not-is_gone-via-else-not-is_gone w ↦
          elim c.match-matches.branch [
            | in-Gone v ↦ λ other. absurd (other (rw c.word_of-2.ensures at v.in-Gone.is))
            | in_default-matches v ↦ absurd (grind (arith, w.if-not-is_gone.false, v.matches-is))
          ]
    ])
    (λ i lt. c.loop-node.invariant i (omega (arith, lt, c.loop-node-test.false, c.nodes_of-node-end.ensures)))
