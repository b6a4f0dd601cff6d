use Rattle.moos_io.proofs.BufferedWriting.{writes_on}
use Rattle.moos_report.proofs.Reporting.{length_past}
use Rattle.moos_report.proofs.put_entry.Goals as goal

pub returns : goal.returns
returns g c =
    let asked = rw c.name_of.ensures at c.put_asking.ensures in
    rw (length_past c.args.db.now.history c.args.k c.requires.at) (writes_on asked c.put_call.ensures)
