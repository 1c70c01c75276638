use Rattle.sci_script_tests.proofs.rest.rests.bring_to_rest.Given as goal

abbrev pub ghosts-counted : goal.ghosts-counted
ghosts-counted a = record { name = a.blank.name; parts = a.blank.parts }
