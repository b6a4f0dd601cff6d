-- The database that is lent has the entries of the run.
use Rattle.std.proofs.Common.{◌∙◌, ap}
use Rattle.moos_db.specs.declared.db.Db.{Db}
use Rattle.moos_io.proofs.BufferedWriting.{sent, writes_as}
use Rattle.moos_report.specs.Report.{end_text}
use Rattle.moos_jobs.proofs.telling.tell_end.Goals as goal

pub returns-clause-told : goal.returns-clause-told
returns-clause-told g c =
    let history = ap (λ (db : Db). db.history) c.value.ensures ∙ c.hold-held.ensures.history in
    sent c.flush.result c.requires.clear (writes_as (ap end_text history) c.put_ending.ensures) c.flush.ensures.writes c.flush.ensures.empty c.flush.ensures.told
