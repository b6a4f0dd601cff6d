use Rattle.moos_io.proofs.Lists.{each_from}
use Rattle.ivp_pool.specs.Tallies.{IsTally}
use Rattle.ivp_pool.proofs.Gluing.{whole}
use Rattle.ivp_pool.proofs.law.tally_law.Goals as goal

pub returns : goal.returns
returns c = λ problem key tallies h are linked. whole problem h key tallies (each_from (IsTally problem key) tallies are) linked
