use Rattle.std.proofs.Common.{eq-eqb}
use Rattle.std.proofs.lemmas.Bool.{ne_eqb}
use Rattle.sci_serve.proofs.Passing.{blank_found, stands_comment, stands_end, stands_mark, start_found}
use Rattle.sci_serve.proofs.Skipping.{said_return}
use Rattle.sci_serve.proofs.kinds.Place.behind.Goals as goal

pub returns-then-byte-eq10 : goal.returns-then-byte-eq10
returns-then-byte-eq10 c = stands_end c.args.self _ (eq-eqb _ 10 c.if-byte-eq10.true)

pub returns-in-Comment : goal.returns-in-Comment
returns-in-Comment c = rw c.in-Comment.is (stands_comment _ (ne_eqb _ 10 c.if-byte-eq10.false))

pub returns-in-Return : goal.returns-in-Return
returns-in-Return c = rw c.in-Return.is (said_return _ (ne_eqb _ 10 c.if-byte-eq10.false))

pub returns-then-byte-eq35 : goal.returns-then-byte-eq35
returns-then-byte-eq35 c = rw c.in-Start.is (stands_mark _ (eq-eqb _ 35 c.if-byte-eq35.true))

pub returns-else-byte-eq35 : goal.returns-else-byte-eq35
returns-else-byte-eq35 c = rw c.in-Start.is (start_found _ c.behind_blanks.result (ne_eqb _ 10 c.if-byte-eq10.false) (ne_eqb _ 35 c.if-byte-eq35.false) c.behind_blanks.ensures)

pub returns-in-Blank : goal.returns-in-Blank
returns-in-Blank c = rw c.in-Blank.is (blank_found _ c.behind_blanks-in-Blank.result (ne_eqb _ 10 c.if-byte-eq10.false) c.behind_blanks-in-Blank.ensures)
