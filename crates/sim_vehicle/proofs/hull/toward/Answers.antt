use Rattle.std.proofs.Common.{◌≡◌, ◌∙◌, ◌-ℤ◌, neg_ℤ, pos, to_z, of_z, w64, arith}
use Rattle.std.proofs.lemmas.Int.{ints, to_z-of_z}
use Rattle.sim_vehicle.specs.Steering.{clamped}
use Rattle.sim_vehicle.proofs.Sizes.{toward_high, toward_low}
use Rattle.sim_vehicle.proofs.hull.toward.Goals as goal

pub returns-clause-value : goal.returns-clause-value
returns-clause-value c =
    let change : to_z w64 (of_z w64 (to_z w64 (of_z w64 c.args.target) -ℤ to_z w64 (of_z w64 c.args.speed))) ≡ c.args.target -ℤ c.args.speed
    = omega (arith, ints, c.requires.target.0, c.requires.target.1, c.requires.speed.0, c.requires.speed.1) in
    let down : to_z w64 (of_z w64 (pos 0 -ℤ to_z w64 (of_z w64 c.args.down))) ≡ neg_ℤ c.args.down = omega (arith, ints, c.requires.down.0, c.requires.down.1) in
    let up = to_z-of_z w64 c.args.up c.ranges.up in
    let coordinate_after : c.clamp.result ≡ clamped (neg_ℤ c.args.down) c.args.up (c.args.target -ℤ c.args.speed) = c.clamp.ensures.value ∙ (λ i. clamped (down i) (up i) (change i)) in
    let low = toward_low c.args.speed c.args.target c.args.down c.args.up c.requires.speed.0 c.requires.target.0 c.requires.down.0 c.requires.up.0 in
    let high = toward_high c.args.speed c.args.target c.args.down c.args.up (pos 100000) c.requires.down.0 c.requires.up.0 c.requires.speed.1 c.requires.target.1 in
    omega (arith, ints, coordinate_after, low, high)

pub returns-clause-low : goal.returns-clause-low
returns-clause-low c =
    rw (returns-clause-value c)
    (toward_low c.args.speed c.args.target c.args.down c.args.up c.requires.speed.0 c.requires.target.0 c.requires.down.0 c.requires.up.0)

pub returns-clause-high : goal.returns-clause-high
returns-clause-high c = λ top speed target.
    rw (returns-clause-value c) (toward_high c.args.speed c.args.target c.args.down c.args.up top c.requires.down.0 c.requires.up.0 speed target)
