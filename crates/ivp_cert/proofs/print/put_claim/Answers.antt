use Rattle.moos_io.proofs.BufferedWriting.{writes_on}
use Rattle.ivp_cert.proofs.print.put_claim.Goals as goal

pub returns : goal.returns
returns g c = writes_on c.write.ensures (writes_on c.put_numbers.ensures c.put_sum.ensures)
