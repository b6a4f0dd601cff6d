use Rattle.ivp_pool.proofs.solved.solve.Given as goal

abbrev pub ghosts-solve_as : goal.ghosts-solve_as
ghosts-solve_as g a = record { problem = a.problem.now }
