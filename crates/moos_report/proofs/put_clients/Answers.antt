use Rattle.moos_io.proofs.BufferedWriting.{leaves_less}
use Rattle.moos_report.proofs.Reporting.{clients_due}
use Rattle.moos_report.proofs.put_clients.Goals as goal

pub loop-number-preserved : goal.loop-number-preserved
loop-number-preserved g c = leaves_less c.loop-number.invariant (clients_due c.args.db.now.names c.loop-number.number c.name.ensures) c.put_client.ensures
