use Rattle.std.proofs.Common.{subst, arith}
use Rattle.ivp_func.specs.Cuts.{AreCuts}
use Rattle.ivp_func.proofs.Cutting.{cells_few}
use Rattle.ivp_func.proofs.cuts.Cuts.cells.Goals as goal

pub overflow_mul-result : goal.overflow_mul-result
overflow_mul-result c = let cuts = subst (λ axes. AreCuts axes c.self.inside.last c.self.inside.run c.self.inside.runs c.self.inside.reciprocals) c.self.view_is c.self.invariant in let few = cells_few c.args.self.now cuts.points in rw cuts.count (omega (arith, few.0))

pub overflow_mul-result-2 : goal.overflow_mul-result-2
overflow_mul-result-2 c = let cuts = subst (λ axes. AreCuts axes c.self.inside.last c.self.inside.run c.self.inside.runs c.self.inside.reciprocals) c.self.view_is c.self.invariant in let few = cells_few c.args.self.now cuts.points in rw cuts.count (omega (arith, few.1))

pub overflow_mul-result-3 : goal.overflow_mul-result-3
overflow_mul-result-3 c = let cuts = subst (λ axes. AreCuts axes c.self.inside.last c.self.inside.run c.self.inside.runs c.self.inside.reciprocals) c.self.view_is c.self.invariant in let few = cells_few c.args.self.now cuts.points in rw cuts.count (omega (arith, few.2))

pub returns-clause-few : goal.returns-clause-few
returns-clause-few c = let cuts = subst (λ axes. AreCuts axes c.self.inside.last c.self.inside.run c.self.inside.runs c.self.inside.reciprocals) c.self.view_is c.self.invariant in let few = cells_few c.args.self.now cuts.points in rw cuts.count (omega (arith, few.2))
