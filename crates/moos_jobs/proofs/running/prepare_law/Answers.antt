use Rattle.moos_jobs.proofs.AtOnce.{declines_at_once, finishes, misses_at_once, objects_at_once, refuses_at_once, rejects_at_once}
use Rattle.moos_jobs.proofs.running.prepare_law.Goals as goal

pub returns-clause-refuses : goal.returns-clause-refuses
returns-clause-refuses c = refuses_at_once

pub returns-clause-declines : goal.returns-clause-declines
returns-clause-declines c = declines_at_once

pub returns-clause-objects : goal.returns-clause-objects
returns-clause-objects c = objects_at_once

pub returns-clause-misses : goal.returns-clause-misses
returns-clause-misses c = misses_at_once

pub returns-clause-rejects : goal.returns-clause-rejects
returns-clause-rejects c = rejects_at_once

pub returns-clause-finishes : goal.returns-clause-finishes
returns-clause-finishes c = finishes
