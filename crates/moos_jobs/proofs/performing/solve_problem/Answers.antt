-- The decision on a problem is put.
use Rattle.std.proofs.Common.{[], ap, refl}
use Rattle.ivp_cert.specs.Certificates.{best_decision}
use Rattle.ivp_cert.specs.Texts.{decision_lines}
use Rattle.moos_jobs.specs.Jobs.{outcomes}
use Rattle.moos_jobs.specs.declared.task.Task.TheVariants.{Solving}
use Rattle.command_line.specs.declared.status.Status.TheVariants.{Done}
use Rattle.command_line.proofs.Loading.{nothing_put, put_ends}
use Rattle.moos_jobs.proofs.performing.solve_problem.Goals as goal

pub returns-in-Ok : goal.returns-in-Ok
returns-in-Ok g c =
    let problem = c.args.problem in
    put_ends outcomes _ (Solving problem) _ Done c.written.result _ c.print_decision_by_workers.result (λ all. all) refl
    (record { printed = ap (decision_lines []) c.in-Ok.ensures.best; accepted = c.certificate_law.ensures.accepted problem (best_decision problem).claim c.problem_law.ensures refl refl }) c.print_decision_by_workers.ensures.ok c.print_decision_by_workers.ensures.front c.print_decision_by_workers.ensures.fares c.print_decision_by_workers.ensures.rose c.written.ensures.all c.written.ensures.fault

pub returns-in-Err : goal.returns-in-Err
returns-in-Err g c = nothing_put outcomes _ _ _
