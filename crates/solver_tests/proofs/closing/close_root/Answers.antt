use Rattle.std.proofs.Common.{ap, ◌∙◌}
use Rattle.solver_tests.proofs.closing.close_root.Goals as goal

pub known-requires-clause-problem : goal.known-requires-clause-problem
known-requires-clause-problem g c = (c.args.problem.now, ap (λ m. m.0.about) c.close_one-closed.ensures.scout.1 ∙ ap (λ m. m.0.about) (rw c.expect-best.ensures at c.make.ensures.scout))
