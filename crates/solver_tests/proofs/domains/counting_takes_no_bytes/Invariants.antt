use Rattle.solver_tests.proofs.domains.counting_takes_no_bytes.Given as goal

abbrev pub ghosts-count_two : goal.ghosts-count_two
ghosts-count_two g a = record { name = a.blank.name; parts = a.blank.parts }
