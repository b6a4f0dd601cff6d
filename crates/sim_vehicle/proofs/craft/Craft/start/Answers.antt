use Rattle.std.proofs.Common.{rules, ◌≡◌, subst, w64, arith}
use Rattle.std.proofs.lemmas.Int.{ints, to_z-of_z}
use Rattle.sim_vehicle.specs.declared.setting.CraftSetting.TheVariants.{StartX, StartY, StartHeading, StartDepth, MaxSpeed}
use Rattle.sim_vehicle.specs.Motion.{IsHull, start_hull}
use Rattle.sim_vehicle.specs.Settings.{AreAllowed}
use Rattle.sim_vehicle.proofs.craft.Craft.start.Goals as goal

pub returns-clause-hull : goal.returns-clause-hull
returns-clause-hull c =
    let settings = c.self.inside.settings in
    let same : settings ≡ c.args.self.now = search rules in
    let allowed : AreAllowed settings = c.self.invariant in
    let x = allowed StartX in
    let y = allowed StartY in
    let hull : IsHull settings (start_hull settings)
    = record {
      x = (omega (arith, ints, x.0), omega (arith, ints, x.1));
      y = (omega (arith, ints, y.0), omega (arith, ints, y.1));
      heading = allowed StartHeading;
      speed = (omega (arith, ints), omega (arith, ints, (allowed MaxSpeed).0));
      depth = allowed StartDepth;
    } in
    rw (
      to_z-of_z w64 settings.start_x (search rules),
      to_z-of_z w64 settings.start_y (search rules),
      to_z-of_z w64 settings.start_heading (search rules),
      to_z-of_z w64 settings.start_depth (search rules),
    ) (subst (λ craft. IsHull craft (start_hull settings)) same hull)
