use Rattle.std.proofs.Common.{inl, refl, subst}
use Rattle.moos_client.specs.Calls.{IsCalled}
use Rattle.moos_post.specs.declared.entry.Call.TheVariants.{Post as Posts}
use Rattle.moos_step.proofs.Lines.{err_any}
use Rattle.moos_play.proofs.helm_client.post_copy.Goals as goal
use Rattle.turn_lock.proofs.Fronts.{begins_itself}

pub returns-in_err-copy-clause-stopped : goal.returns-in_err-copy-clause-stopped
returns-in_err-copy-clause-stopped g c = err_any _ (inl (record { later = begins_itself c.args.seat.now.seen; same = refl }))

pub returns-in_err-post-clause-stopped : goal.returns-in_err-post-clause-stopped
returns-in_err-post-clause-stopped g c = err_any _ (inl c.in_err-post.ensures.uncalled)

pub returns-clause-posted : goal.returns-clause-posted
returns-clause-posted g c = subst (λ pairs. IsCalled c.args.seat.now c.post.new.seat c.args.stamp (Posts pairs)) c.in_ok-copy.ensures c.in_ok-post.ensures.called
