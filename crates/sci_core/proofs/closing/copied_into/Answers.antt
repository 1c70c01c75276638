use Rattle.std.proofs.Common.{◌∙◌, length, ap, arith}
use Rattle.std.proofs.lemmas.List.{length-take-le, take_all, take_more}
use Rattle.sci_core.proofs.closing.copied_into.Goals as goal

pub loop-item-init : goal.loop-item-init
loop-item-init g c = record { room = c.requires.enough; items = c.requires.empty }

pub push_reserved-requires : goal.push_reserved-requires
push_reserved-requires g c =
    let taken = length-take-le c.loop-item.item-index c.args.items.now c.loop-item.auto.item-index-end in
    let long = ap (length {A = g.row.T.Denot}) c.loop-item.invariant.items in
    omega (arith, c.loop-item.room.ok, c.loop-item.invariant.room, c.loop-item-test.true)

pub loop-item-preserved : goal.loop-item-preserved
loop-item-preserved g c =
    let more = take_more c.args.items.now c.loop-item.item-index c.item-item.result c.loop-item-test.true in
    record { room = omega (arith, c.push_reserved.ensures.capacity, c.loop-item.invariant.room); items = cc }

pub returns : goal.returns
returns g c = c.loop-item.invariant.items ∙ take_all c.loop-item.item-index c.args.items.now c.loop-item-test.false
