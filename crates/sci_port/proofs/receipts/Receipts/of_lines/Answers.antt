use Rattle.std.proofs.Common.{◌≡◌, ◌∙◌, ◌∷◌, ◌++◌, [], List, ap, arith, length}
use Rattle.std.proofs.lemmas.List.{length-replicate, replicate_more}
use Rattle.sci_port.specs.Readying.{no_receipts}
use Rattle.sci_port.specs.ReceiptList.{ReceiptList}
use Rattle.sci_port.proofs.receipts.Receipts.of_lines.Goals as goal

pub push_reserved-requires : goal.push_reserved-requires
push_reserved-requires c =
    let i = c.loop-line.invariant in let many = ap (λ (l : List ReceiptList). length l) i.made ∙ length-replicate c.loop-line.line no_receipts in
    omega (arith, many, i.room, c.loop-line.all.ok.0, c.loop-line-test.true)

pub loop-line-preserved : goal.loop-line-preserved
loop-line-preserved c =
    let i = c.loop-line.invariant in
    let none : c.new.result ≡ no_receipts = λ k. record { list = c.new.ensures.list k; passing = c.new.ensures.mark k; room = c.new.ensures.room k } in
    record {
      made = c.push_reserved.ensures.items ∙ ((λ k. i.made k ++ none k ∷ []) ∙ replicate_more c.loop-line.line no_receipts);
      room = rw c.push_reserved.ensures.capacity i.room;
    }
