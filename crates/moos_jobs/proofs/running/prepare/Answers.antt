-- What the job that the words name came to is what the run did. Where no memory was left for the words, nothing was put.
use Rattle.std.proofs.Common.{◌∙◌, inl, refl, subst, sym}
use Rattle.std.specs.Prelude.{IfSome}
use Rattle.command_line.specs.Jobs.{HasFewWorkers}
use Rattle.moos_jobs.proofs.AtOnce.{comes}
use Rattle.moos_jobs.proofs.running.prepare.Goals as goal

pub returns-in-Some-clause-comes : goal.returns-in-Some-clause-comes
returns-in-Some-clause-comes g c =
    let done = c.prepare_job.ensures in
    comes c.args.words.now _ c.in-Some.job c.prepare_job.result (sym c.in-Ok.ensures.named ∙ c.in-Some.is) (subst (λ named. IfSome named HasFewWorkers) c.in-Some.is c.in-Ok.ensures.few) done.ends done.loaded done.waits
    done.good done.workers done.silent

pub returns-in-Err-clause-comes : goal.returns-in-Err-clause-comes
returns-in-Err-clause-comes g c = inl (record { heard = refl; silent = record { taken = refl; faults = refl } })
