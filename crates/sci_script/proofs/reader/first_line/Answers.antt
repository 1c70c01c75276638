use Rattle.std.proofs.Common.{sym}
use Rattle.std.proofs.lemmas.List.{take_rest}
use Rattle.sci_script.proofs.Lines.{lines_some, lines_none}
use Rattle.sci_script.proofs.reader.first_line.Goals as goal

pub returns-in-Some-clause-first : goal.returns-in-Some-clause-first
returns-in-Some-clause-first c = let e = lines_some c.args.text.now c.in-Some.end (sym c.in-Some.ensures) in rw (c.without_return.ensures, take_rest) e

pub returns-in-None-clause-first : goal.returns-in-None-clause-first
returns-in-None-clause-first c = lines_none c.args.text.now c.requires (sym c.in-None.ensures)
