use Rattle.std.proofs.Common.{drop}
use Rattle.moos_report.specs.Report.{clients_text}
use Rattle.moos_io.proofs.BufferedWriting.{Leaves}
use Rattle.moos_report.proofs.put_clients.Given as goal

abbrev pub invariant-loop-number : goal.invariant-loop-number
invariant-loop-number g l =
    Leaves g.K.Sink.taken g.K.Sink.faults l.initial.out l.out
    (clients_text l.number (drop l.number l.db.names)) (clients_text 0 l.db.names)
