use Rattle.moos_io.proofs.BufferedWriting.{writes_on}
use Rattle.moos_report.proofs.parts.put_report.Goals as goal

pub returns : goal.returns
returns g c = writes_on c.put_head.ensures (writes_on c.put_entries.ensures.wrote c.put_ending.ensures)
