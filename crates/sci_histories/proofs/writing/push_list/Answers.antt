use Rattle.std.proofs.Common.{rules, append_assoc, []}
use Rattle.sci_core.specs.declared.receipts.Receipt.TheVariants.{Read}
use Rattle.sci_histories.proofs.TextLoops.{list_more, list_end}
use Rattle.sci_histories.proofs.writing.push_list.Goals as goal

pub loop-place-preserved : goal.loop-place-preserved
loop-place-preserved c = search (rules, append_assoc, list_more c.args.node c.loop-place.place c.args.receipts.now (Read [] 0))

pub returns : goal.returns
returns c = search (rules, append_assoc, list_end c.args.node c.loop-place.place c.args.receipts.now)
