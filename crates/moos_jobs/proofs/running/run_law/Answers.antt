use Rattle.moos_jobs.proofs.Endings.{answers, completes, declines, misses, objects, refuses, rejects, succeeds}
use Rattle.moos_jobs.proofs.running.run_law.Goals as goal

pub returns-clause-completes : goal.returns-clause-completes
returns-clause-completes c = completes

pub returns-clause-refuses : goal.returns-clause-refuses
returns-clause-refuses c = refuses

pub returns-clause-succeeds : goal.returns-clause-succeeds
returns-clause-succeeds c = succeeds

pub returns-clause-declines : goal.returns-clause-declines
returns-clause-declines c = declines

pub returns-clause-answers : goal.returns-clause-answers
returns-clause-answers c = answers

pub returns-clause-objects : goal.returns-clause-objects
returns-clause-objects c = objects

pub returns-clause-misses : goal.returns-clause-misses
returns-clause-misses c = misses

pub returns-clause-rejects : goal.returns-clause-rejects
returns-clause-rejects c = rejects
