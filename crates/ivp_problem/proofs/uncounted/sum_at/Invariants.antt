use Rattle.ivp_problem.proofs.uncounted.sum_at.Given as goal

abbrev pub ghosts-sum_by : goal.ghosts-sum_by
ghosts-sum_by a = record { name = a.blank.name; parts = a.blank.parts }
