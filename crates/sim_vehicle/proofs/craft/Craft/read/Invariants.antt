use Rattle.std.proofs.Common.{length}
use Rattle.moos_text.proofs.Walks.{IsRead}
use Rattle.sim_vehicle.specs.Settings.{default_settings}
use Rattle.sim_vehicle.proofs.Lines.{set_by_raw}
use Rattle.sim_vehicle.proofs.craft.Craft.read.Given as goal

abbrev pub invariant-loop-said : goal.invariant-loop-said
invariant-loop-said l = IsRead set_by_raw default_settings l.bytes l.lines l.craft l.left

abbrev pub decreases-loop-said : goal.decreases-loop-said
decreases-loop-said l = length l.left
