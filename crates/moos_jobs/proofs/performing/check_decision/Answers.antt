-- The answer on a decision is put.
use Rattle.std.proofs.Common.{◌∙◌, refl, sym, true≢false}
use Rattle.moos_jobs.specs.Jobs.{outcomes}
use Rattle.moos_jobs.specs.declared.task.Task.TheVariants.{Checking}
use Rattle.command_line.specs.declared.status.Status.TheVariants.{Done, CheckNo}
use Rattle.command_line.proofs.Loading.{put_ends}
use Rattle.moos_jobs.proofs.performing.check_decision.Goals as goal

pub returns-then-accepts : goal.returns-then-accepts
returns-then-accepts g c =
    put_ends outcomes _ (Checking c.args.decision.now) _ Done c.written.result _ c.put_all.result (λ all. all) refl
    (record { accepted = c.accepts.ensures.accepts.0 c.if-accepts.true; best = c.accepts.ensures.best c.if-accepts.true }, refl)
    c.put_all.ensures.ok c.put_all.ensures.front c.put_all.ensures.fares c.put_all.ensures.rose c.written.ensures.all c.written.ensures.fault

pub returns-else-accepts : goal.returns-else-accepts
returns-else-accepts g c =
    put_ends outcomes _ (Checking c.args.decision.now) _ CheckNo c.written-else-accepts.result _ c.put_all-else-accepts.result (λ all. all) refl
    (λ accepted. true≢false (sym (c.accepts.ensures.accepts.1 accepted) ∙ c.if-accepts.false), refl)
    c.put_all-else-accepts.ensures.ok c.put_all-else-accepts.ensures.front c.put_all-else-accepts.ensures.fares c.put_all-else-accepts.ensures.rose c.written-else-accepts.ensures.all c.written-else-accepts.ensures.fault
