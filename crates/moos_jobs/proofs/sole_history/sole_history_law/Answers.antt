use Rattle.moos_jobs.proofs.Merging.{sole_history}
use Rattle.moos_jobs.proofs.sole_history.sole_history_law.Goals as goal

pub returns : goal.returns
returns c = sole_history
