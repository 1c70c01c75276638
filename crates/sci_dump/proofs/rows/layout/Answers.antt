use Rattle.sci_dump.proofs.Labelled.{layout_one, layout_two, layout_none}
use Rattle.sci_dump.proofs.rows.layout.Goals as goal

pub returns-in-Some : goal.returns-in-Some
returns-in-Some c = record { exact = layout_one c.args.text.now c.in-Some.rest.now c.in-Some.ensures.exact }

pub returns-in_err-rest : goal.returns-in_err-rest
returns-in_err-rest c = record { exact = rw c.from_residual.ensures (layout_none c.args.text.now c.in_default.ensures.exact c.in_err-rest.ensures.exact) }

pub returns : goal.returns
returns c = record { exact = layout_two c.args.text.now c.in_ok-rest.rest.now c.in_default.ensures.exact c.in_ok-rest.ensures.exact }
