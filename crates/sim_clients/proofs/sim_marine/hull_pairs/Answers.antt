use Rattle.std.proofs.Common.{rules, w64, arith}
use Rattle.std.proofs.lemmas.Int.{ints, to_z-of_z}
use Rattle.sim_vehicle.specs.declared.setting.CraftSetting.TheVariants.{MaxSpeed}
use Rattle.sim_vehicle.specs.Settings.{AreAllowed}
use Rattle.sim_clients.proofs.sim_marine.hull_pairs.Goals as goal

pub add_number-requires-4-clause-number : goal.add_number-requires-4-clause-number
add_number-requires-4-clause-number c =
    let allowed : AreAllowed c.args.craft.now = c.allowed_law.ensures in
    let within = c.requires.speed in
    rw (to_z-of_z w64 c.args.hull.speed (search rules)) (omega (arith, ints, within.0), omega (arith, ints, within.1, (allowed MaxSpeed).1))
