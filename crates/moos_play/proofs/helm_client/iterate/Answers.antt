use Rattle.std.proofs.Common.{inl, inr}
use Rattle.moos_step.proofs.Lines.{err_any}
use Rattle.moos_play.proofs.Steering.{called_of}
use Rattle.moos_play.proofs.Ticking.{iterated}
use Rattle.moos_play.proofs.helm_client.iterate.Goals as goal

pub returns-in_err-mail-clause-stopped : goal.returns-in_err-mail-clause-stopped
returns-in_err-mail-clause-stopped g c = err_any _ (inl c.in_err-mail.ensures.uncalled)

pub returns-clause-iterated : goal.returns-clause-iterated
returns-clause-iterated g c = iterated c.args.lock.now.base c.args.seat.now c.fetch.new.seat c.args.helm.now c.tick.new.self c.args.stamp _ c.tick.result c.in_ok-mail.ensures.fetched c.tick.ensures.ticked

pub returns-clause-stopped : goal.returns-clause-stopped
returns-clause-stopped g c = err_any _ (inr (called_of c.args.seat.now c.fetch.new.seat c.args.lock.now.base c.args.stamp _ c.in_ok-mail.ensures.fetched))
