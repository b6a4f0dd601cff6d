use Rattle.helm_core.proofs.Names.{contacts_once, named_once, resolved_leave}
use Rattle.helm_core.proofs.law.names_law.Goals as goal

pub returns : goal.returns
returns c = record { once = named_once; contacts = contacts_once; resolved = resolved_leave }
