use Rattle.ivp_build.proofs.FirstNearest.{near_nearest}
use Rattle.ivp_build.proofs.law.near_law.Goals as goal

pub returns : goal.returns
returns c = near_nearest
