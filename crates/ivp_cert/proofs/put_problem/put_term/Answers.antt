use Rattle.moos_io.proofs.BufferedWriting.{writes_on}
use Rattle.ivp_cert.proofs.put_problem.put_term.Goals as goal

pub returns : goal.returns
returns g c = writes_on c.put_weight.ensures c.put_pieces.ensures
