-- The job ends as its loading does, or as the check of its decision, or its task is left.
use Rattle.std.proofs.Common.{subst, sym}
use Rattle.command_line.specs.Endings.{Ended, sinking}
use Rattle.command_line.specs.Turns.{Ready}
use Rattle.moos_jobs.proofs.TwoSteps.{did_no_task, did_task}
use Rattle.moos_jobs.specs.declared.task.Task.{Task}
use Rattle.moos_jobs.specs.Jobs.{outcomes, turn_of}
use Rattle.moos_jobs.proofs.running.prepare_job.Goals as goal

pub returns-in-Err-clause-ends : goal.returns-in-Err-clause-ends
returns-in-Err-clause-ends g c = did_no_task outcomes _ _ _ _ (turn_of c.args.job.now) c.in-Err.status c.in-Err.ensures.ends (g.K.Sink.taken c.args.out.now) (g.K.Sink.faults c.args.out.now)

pub returns-in-Checking-clause-ends : goal.returns-in-Checking-clause-ends
returns-in-Checking-clause-ends g c =
    let sink = sinking (g.K.Sink.taken c.args.out.now) (g.K.Sink.taken c.check_decision.new.out) (g.K.Sink.faults c.args.out.now) (g.K.Sink.faults c.check_decision.new.out) in
    did_task outcomes _ _ _ _ (turn_of c.args.job.now) c.in-Ok.task c.in-Ok.ensures.loaded sink c.check_decision.result
    (subst (λ (task : Task). Ended outcomes (Ready task) sink c.check_decision.result) (sym c.in-Checking.is) c.check_decision.ensures)
