use Rattle.sci_line_tests.proofs.ops.answers_of.Given as goal

abbrev pub ghosts-answers_alone : goal.ghosts-answers_alone
ghosts-answers_alone a = record { name = a.blank.name; parts = a.blank.parts }
