-- The job has the name that was found, where there is one.
use Rattle.std.proofs.Common.{◌∙◌, ap, option_map, sym}
use Rattle.command_line.specs.declared.job.Job.TheVariants.{Solve}
use Rattle.command_line.proofs.job.solve_of.Goals as goal

pub returns-in-Ok-Some-clause-named : goal.returns-in-Ok-Some-clause-named
returns-in-Ok-Some-clause-named c =
    rw (← c.workers_in-workers.ensures.found)
    (ap (option_map (λ name. Solve name c.workers_in-workers.result)) (sym c.in-Ok-Some.field-0-is ∙ c.in-Ok-Some.ensures))

pub returns-in-Ok-None-clause-named : goal.returns-in-Ok-None-clause-named
returns-in-Ok-None-clause-named c =
    rw (← c.workers_in-workers.ensures.found)
    (ap (option_map (λ name. Solve name c.workers_in-workers.result)) (sym c.in-Ok-None.field-0-is ∙ c.in-Ok-None.ensures))
