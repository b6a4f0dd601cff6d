use Rattle.moos_io.proofs.BufferedWriting.{writes_on}
use Rattle.moos_report.proofs.lines.put_quoted.Goals as goal

pub returns : goal.returns
returns g c = writes_on c.write.ensures (writes_on c.put_escaped.ensures c.write-2.ensures)
