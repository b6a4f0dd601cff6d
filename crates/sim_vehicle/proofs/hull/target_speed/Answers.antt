use Rattle.std.proofs.Common.{rules, ◌≡◌, ◌∙◌, ◌*ℤ◌, w64, to_z, of_z, arith}
use Rattle.std.proofs.lemmas.Int.{ints, to_z-of_z}
use Rattle.sim_vehicle.proofs.Sizes.{share_within}
use Rattle.sim_vehicle.proofs.hull.target_speed.Goals as goal

pub returns-clause-within : goal.returns-clause-within
returns-clause-within c =
    let thrust = to_z-of_z w64 c.args.thrust c.ranges.thrust in
    let top = to_z-of_z w64 c.args.greatest c.ranges.greatest in
    let plain : to_z w64 (of_z w64 c.times.result) ≡ c.args.thrust *ℤ c.args.greatest = to_z-of_z w64 c.times.result (search rules) ∙ c.times.ensures.value ∙ (λ i. thrust i *ℤ top i) in
    let share = share_within c.args.thrust c.args.greatest c.requires.thrust (omega (arith, ints, c.requires.greatest.0)) in
    rw plain (omega (arith, ints, share.0, share.1, c.requires.greatest.1), omega (arith, ints, share.0, share.1, c.requires.greatest.1))
