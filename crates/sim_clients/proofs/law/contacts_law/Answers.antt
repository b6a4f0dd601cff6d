use Rattle.std.specs.Prelude.{[]}
use Rattle.sim_clients.proofs.Contacting.{last_is}
use Rattle.sim_clients.proofs.law.contacts_law.Goals as goal

pub returns-clause-few : goal.returns-clause-few
returns-clause-few c = λ ranges mails. (last_is ranges [] [] mails).few

pub returns-clause-pairs : goal.returns-clause-pairs
returns-clause-pairs c = λ ranges mails. (last_is ranges [] [] mails).pairs
