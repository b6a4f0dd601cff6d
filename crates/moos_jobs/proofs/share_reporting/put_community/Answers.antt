-- The report is that of no helm.
use Rattle.std.proofs.Common.{[], ap}
use Rattle.moos_io.proofs.BufferedWriting.{writes_as}
use Rattle.moos_report.proofs.KeptLines.{no_lines}
use Rattle.moos_report.specs.declared.setup.Setup.{Setup}
use Rattle.moos_report.specs.Report.{report_text}
use Rattle.moos_jobs.proofs.share_reporting.put_community.Goals as goal

pub put_report-requires : goal.put_report-requires
put_report-requires g c = no_lines c.args.db.now.names c.args.db.now.history _ c.new.ensures

pub returns : goal.returns
returns g c = writes_as (ap (λ (setup : Setup). report_text setup c.args.db.now.names c.args.db.now.history []) c.setup_without_helm-setup.ensures) c.put_report.ensures
