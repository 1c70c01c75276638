use Rattle.std.proofs.Common.{sym}
use Rattle.std.proofs.lemmas.List.{take_rest}
use Rattle.sci_script.proofs.Lines.{cut_at_end, no_end}
use Rattle.sci_serve.proofs.talking.first_ended.Goals as goal

pub returns-in-Some-clause-cut : goal.returns-in-Some-clause-cut
returns-in-Some-clause-cut c = let e = cut_at_end c.args.bytes.now c.in-Some.end (sym c.in-Some.ensures) in rw take_rest (e.1, e.0)

pub returns-in-None-clause-cut : goal.returns-in-None-clause-cut
returns-in-None-clause-cut c = no_end c.args.bytes.now (sym c.in-None.ensures)
