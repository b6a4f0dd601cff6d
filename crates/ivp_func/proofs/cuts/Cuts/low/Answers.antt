use Rattle.std.proofs.Common.{◌≡◌, get_or, subst, arith}
use Rattle.ivp_func.specs.Cuts.{AreCuts}
use Rattle.ivp_func.specs.Grids.{run_on}
use Rattle.ivp_func.proofs.Cutting.{last_small, one_of_four, run_fits}
use Rattle.ivp_func.proofs.cuts.Cuts.low.Goals as goal

pub overflow_mul-result : goal.overflow_mul-result
overflow_mul-result c =
    let axes = c.args.self.now in
    let cuts = subst (λ axes. AreCuts axes c.self.inside.last c.self.inside.run c.self.inside.runs c.self.inside.reciprocals) c.self.view_is c.self.invariant in
    let at : get_or c.self.inside.run c.args.axis 0 ≡ run_on c.args.axis axes = rw cuts.places (one_of_four (λ k. run_on k axes) c.args.axis c.requires.axis) in
    rw at (omega (arith, run_fits axes c.args.axis c.args.run c.requires.run, last_small axes c.args.axis cuts.points c.requires.axis))

pub overflow_cast-result : goal.overflow_cast-result
overflow_cast-result c =
    let axes = c.args.self.now in
    let cuts = subst (λ axes. AreCuts axes c.self.inside.last c.self.inside.run c.self.inside.runs c.self.inside.reciprocals) c.self.view_is c.self.invariant in
    let at : get_or c.self.inside.run c.args.axis 0 ≡ run_on c.args.axis axes = rw cuts.places (one_of_four (λ k. run_on k axes) c.args.axis c.requires.axis) in
    rw at (omega (arith, run_fits axes c.args.axis c.args.run c.requires.run, last_small axes c.args.axis cuts.points c.requires.axis))
