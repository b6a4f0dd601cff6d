use Rattle.std.proofs.Common.{rules, ◌≡◌, ◌∙◌, ◌^◌, ◌+ℤ◌, pos, ap, w64, to_z, of_z, arith}
use Rattle.std.proofs.lemmas.Int.{ints, to_z-of_z}
use Rattle.sim_vehicle.specs.Motion.{depth_error, most_change}
use Rattle.sim_vehicle.specs.Steering.{clamped, limited}
use Rattle.sim_vehicle.proofs.hull.depth_after.Goals as goal

pub returns-clause-value : goal.returns-clause-value
returns-clause-value c =
    let rate = c.args.craft.now.dive in
    let depth = to_z-of_z w64 c.args.depth c.ranges.depth in
    let dive : to_z w64 (of_z w64 c.get.result) ≡ rate = to_z-of_z w64 c.get.result (search rules) ∙ c.get.ensures.value in
    let most : to_z w64 (of_z w64 c.most_change-most.result) ≡ most_change rate c.args.dt
    = to_z-of_z w64 c.most_change-most.result (search rules) ∙ c.most_change-most.ensures.value ∙ (λ i. most_change (dive i) c.args.dt) in
    let error : to_z w64 (of_z w64 c.depth_error.result) ≡ depth_error c.args.depth c.args.want
    = to_z-of_z w64 c.depth_error.result (search rules) ∙ c.depth_error.ensures.value ∙ (λ i. depth_error (depth i) c.args.want) in
    let change : to_z w64 (of_z w64 c.limited-change.result) ≡ limited (most_change rate c.args.dt) (depth_error c.args.depth c.args.want)
    = to_z-of_z w64 c.limited-change.result (search rules) ∙ c.limited-change.ensures.value ∙ (λ i. limited (most i) (error i)) in
    let size = c.most_change-most.ensures.within in
    let within = c.limited-change.ensures.within in
    let sum : to_z w64 (of_z w64 (to_z w64 (of_z w64 c.args.depth) +ℤ to_z w64 (of_z w64 c.limited-change.result))) ≡ to_z w64 (of_z w64 c.args.depth) +ℤ to_z w64 (of_z w64 c.limited-change.result)
    = omega (arith, ints, c.requires.depth.0, c.requires.depth.1, size.0, size.1, within.0, within.1) in
    to_z-of_z w64 c.clamp.result (search rules) ∙ c.clamp.ensures.value ∙ ap (clamped (pos 0) (pos (10 ^ 7))) (sum ∙ (λ i. depth i +ℤ change i))
