use Rattle.std.proofs.Common.{rules, append_assoc}
use Rattle.sci_histories.proofs.TextLoops.{lines_more, lines_end}
use Rattle.sci_histories.proofs.writing.push_lines.Goals as goal

pub loop-number-preserved : goal.loop-number-preserved
loop-number-preserved c = search (rules, append_assoc, lines_more c.loop-number.number c.args.lines.now c.index-lines-number.result)

pub returns : goal.returns
returns c = search (rules, append_assoc, lines_end c.loop-number.number c.args.lines.now)
