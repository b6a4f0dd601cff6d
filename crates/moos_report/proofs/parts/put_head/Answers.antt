use Rattle.moos_io.proofs.BufferedWriting.{writes_on}
use Rattle.moos_report.proofs.parts.put_head.Goals as goal

pub returns : goal.returns
returns g c =
    let unused = rw c.all.ensures at c.put_unused_list.ensures in
    writes_on c.write.ensures (writes_on c.put_clients.ensures unused)
