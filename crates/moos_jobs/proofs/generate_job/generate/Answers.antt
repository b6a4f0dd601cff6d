-- The summary of what was played is put.
use Rattle.std.proofs.Common.{refl}
use Rattle.moos_jobs.specs.Jobs.{outcomes}
use Rattle.moos_jobs.specs.declared.task.Task.TheVariants.{Generating}
use Rattle.command_line.specs.declared.status.Status.TheVariants.{Done}
use Rattle.command_line.proofs.Loading.{nothing_put, put_ends}
use Rattle.moos_jobs.proofs.Summing.{summarized}
use Rattle.moos_jobs.proofs.generate_job.generate.Goals as goal

pub returns-in-Ok : goal.returns-in-Ok
returns-in-Ok g c =
    put_ends outcomes _ (Generating c.args.number) _ Done c.written.result _ c.summary.result (λ all. all) refl
    (summarized c.args.number c.in-Ok.counted.db.names c.in-Ok.counted.db.history c.in-Ok.counted.iterations c.sole_history_law.ensures c.worth_law.ensures c.names_law.ensures.once c.reliable_law.ensures c.in-Ok.ensures)
    c.summary.ensures.ok c.summary.ensures.front c.summary.ensures.fares c.summary.ensures.rose c.written.ensures.all c.written.ensures.fault

pub returns-in-Err : goal.returns-in-Err
returns-in-Err g c = nothing_put outcomes _ _ _
