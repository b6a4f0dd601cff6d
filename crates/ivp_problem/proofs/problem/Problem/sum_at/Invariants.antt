use Rattle.ivp_problem.proofs.problem.Problem.sum_at.Given as goal

abbrev pub ghosts-sum_with : goal.ghosts-sum_with
ghosts-sum_with g a = record { name = a.blank.name; parts = a.blank.parts }
