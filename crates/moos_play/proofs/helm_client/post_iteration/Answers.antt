use Rattle.std.proofs.Common.{inr}
use Rattle.moos_step.proofs.Lines.{err_any}
use Rattle.moos_play.proofs.helm_client.post_iteration.Goals as goal

pub returns-in_err-add-clause-stopped : goal.returns-in_err-add-clause-stopped
returns-in_err-add-clause-stopped g c = err_any _ (inr c.in_ok-post_copy.ensures.posted)
