use Rattle.sci_script_tests.proofs.rest.desks.take_to_end.Given as goal

abbrev pub ghosts-counted_end : goal.ghosts-counted_end
ghosts-counted_end a = record { name = a.blank.name; parts = a.blank.parts }
