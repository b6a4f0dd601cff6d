use Rattle.ivp_problem.proofs.uncounted.bound_of.Given as goal

abbrev pub ghosts-bound_by : goal.ghosts-bound_by
ghosts-bound_by a = record { name = a.blank.name; parts = a.blank.parts }
