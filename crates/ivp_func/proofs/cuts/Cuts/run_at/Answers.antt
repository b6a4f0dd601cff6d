use Rattle.std.proofs.Common.{◌≡◌, get_or, subst, arith}
use Rattle.ivp_func.specs.Cuts.{AreCuts, reciprocal_of}
use Rattle.ivp_func.specs.Grids.{run_on}
use Rattle.ivp_func.proofs.Cutting.{one_of_four, place_small, run_at_by_reciprocal, reciprocal_fits}
use Rattle.ivp_func.proofs.cuts.Cuts.run_at.Goals as goal

pub overflow_mul-result : goal.overflow_mul-result
overflow_mul-result c =
    let axes = c.args.self.now in
    let cuts = subst (λ axes. AreCuts axes c.self.inside.last c.self.inside.run c.self.inside.runs c.self.inside.reciprocals) c.self.view_is c.self.invariant in
    let at : get_or c.self.inside.reciprocals c.args.axis 0 ≡ reciprocal_of (run_on c.args.axis axes) = rw cuts.reciprocal (one_of_four (λ k. reciprocal_of (run_on k axes)) c.args.axis c.requires.axis) in
    rw at (omega (arith, reciprocal_fits (get_or c.args.point.now.at c.args.axis 0) (run_on c.args.axis axes) (place_small axes c.args.point.now c.args.axis cuts.points c.requires.point c.requires.axis)))

pub returns : goal.returns
returns c =
    let axes = c.args.self.now in
    let cuts = subst (λ axes. AreCuts axes c.self.inside.last c.self.inside.run c.self.inside.runs c.self.inside.reciprocals) c.self.view_is c.self.invariant in
    let at : get_or c.self.inside.reciprocals c.args.axis 0 ≡ reciprocal_of (run_on c.args.axis axes) = rw cuts.reciprocal (one_of_four (λ k. reciprocal_of (run_on k axes)) c.args.axis c.requires.axis) in
    rw at (run_at_by_reciprocal axes c.args.axis c.args.point.now cuts.points c.requires.axis (place_small axes c.args.point.now c.args.axis cuts.points c.requires.point c.requires.axis))
