use Rattle.solver_tests.proofs.made.greatest_key.Given as goal

abbrev pub ghosts-greatest_by : goal.ghosts-greatest_by
ghosts-greatest_by a = record { name = a.blank.name; parts = a.blank.parts }
