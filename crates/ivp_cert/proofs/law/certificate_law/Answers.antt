use Rattle.ivp_cert.proofs.Accepting.{certificate_accepted}
use Rattle.ivp_cert.proofs.Topmost.{certificate_topmost}
use Rattle.ivp_cert.proofs.law.certificate_law.Goals as goal

pub returns-clause-accepted : goal.returns-clause-accepted
returns-clause-accepted c = certificate_accepted

pub returns-clause-topmost : goal.returns-clause-topmost
returns-clause-topmost c = certificate_topmost
