-- As the task ends that is left, so does the run.
use Rattle.std.proofs.Common.{subst}
use Rattle.command_line.specs.Endings.{Ended, sinking}
use Rattle.command_line.specs.Turns.{Ready}
use Rattle.moos_jobs.proofs.AtOnce.{finishes}
use Rattle.moos_jobs.specs.Jobs.{outcomes}
use Rattle.moos_jobs.proofs.running.run.Goals as goal

pub returns-in-Ok-clause-ran : goal.returns-in-Ok-clause-ran
returns-in-Ok-clause-ran g c =
    let left = c.in-Ok.ensures.comes in
    let taken = g.K.Sink.taken c.perform.new.out in
    let faults = g.K.Sink.faults c.perform.new.out in
    finishes c.args.words.now _ c.in-Ok.prepared left (sinking (g.K.Sink.taken c.args.out.now) taken (g.K.Sink.faults c.args.out.now) faults) c.perform.result
    (subst (λ before. Ended outcomes (Ready c.in-Ok.prepared.task) (sinking (g.K.Sink.taken c.args.out.now) taken before faults) c.perform.result) left.silent.faults
    (subst (λ before. Ended outcomes (Ready c.in-Ok.prepared.task) (sinking before taken (g.K.Sink.faults c.prepare.new.out) faults) c.perform.result) left.silent.taken c.perform.ensures))
