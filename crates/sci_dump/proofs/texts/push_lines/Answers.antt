use Rattle.std.proofs.Common.{rules, append_assoc}
use Rattle.sci_words.specs.declared.layouts.Layout.TheVariants.{Two}
use Rattle.sci_dump.proofs.Writing.{lines_more, lines_end}
use Rattle.sci_dump.proofs.texts.push_lines.Goals as goal

pub loop-number-preserved : goal.loop-number-preserved
loop-number-preserved c = search (rules, append_assoc, lines_more Two c.loop-number.number c.args.lines.now c.index-lines-number.result)

pub returns : goal.returns
returns c = search (rules, append_assoc, lines_end Two c.loop-number.number c.args.lines.now)
