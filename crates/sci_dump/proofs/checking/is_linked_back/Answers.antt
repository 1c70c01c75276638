use Rattle.std.proofs.Common.{arith}
use Rattle.sci_dump.proofs.Deciding.{IsLinkedOn, each_more, linked_on, invalid_on, last_on, head_suits, none_suits, linked, not_linked}
use Rattle.sci_dump.proofs.checking.is_linked_back.Goals.{in-Some+else-not-is_head, in_default, in-Some-forw+else-is_sharer, else-is_sharer-via-then-is_sharer+else-not-is_behind, else-is_sharer-via-else-is_sharer, in_default-forw}
use Rattle.sci_dump.proofs.checking.is_linked_back.Goals as goal

pub loop-node-init : goal.loop-node-init
loop-node-init c = λ i lt. absurd (omega (arith, lt))

pub returns-then-not-is_behind : goal.returns-then-not-is_behind
returns-then-not-is_behind c =
    not_linked c.args.closed.now c.loop-node.node c.in-Some-forw.next c.tag_of-entry.result c.tag_of-then-is_sharer.result c.tag_of-entry.ensures
    (rw c.number_of-then-is_sharer.ensures at c.tag_of-then-is_sharer.ensures) (omega (arith, c.loop-node-test.true, c.nodes_of-node-end.ensures))
    c.if-is_sharer.ensures c.in-Some-forw.is c.if-not-is_behind.ensures

pub returns : goal.returns
returns c =
    linked c.args.closed.now
    (elim c.match-word_of.branch [
      | in-Some+else-not-is_head w ↦
          head_suits c.args.closed.now w.in-Some.head w.tag_of.result (rw w.number_of.ensures at w.tag_of.ensures) (rw c.word_of.ensures at w.in-Some.is) w.if-not-is_head.ensures
      | in_default w ↦ none_suits c.args.closed.now (rw c.word_of.ensures at w.in_default.is)
    ])
    (λ i lt. c.loop-node.invariant i (omega (arith, lt, c.loop-node-test.false, c.nodes_of-node-end.ensures)))

pub loop-node-preserved : goal.loop-node-preserved
loop-node-preserved c =
    each_more (IsLinkedOn c.args.closed.now) c.loop-node.node c.loop-node.invariant
    (elim c.match-entry.branch [
      | in-Some-forw+else-is_sharer w ↦
          elim w.else-is_sharer.branch [
            | else-is_sharer-via-then-is_sharer+else-not-is_behind v ↦
                linked_on c.args.closed.now c.loop-node.node w.in-Some-forw.next c.tag_of-entry.result v.tag_of-then-is_sharer.result c.tag_of-entry.ensures
                (rw v.number_of-then-is_sharer.ensures at v.tag_of-then-is_sharer.ensures) w.in-Some-forw.is v.if-not-is_behind.ensures
            | else-is_sharer-via-else-is_sharer v ↦ invalid_on c.args.closed.now c.loop-node.node c.tag_of-entry.result c.tag_of-entry.ensures v.if-is_sharer.ensures
          ]
      | in_default-forw w ↦ last_on c.args.closed.now c.loop-node.node c.tag_of-entry.result c.tag_of-entry.ensures w.in_default-forw.is
    ])
