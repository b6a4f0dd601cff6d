use Rattle.script_reader.proofs.NamedLines.{no_client}
use Rattle.script_reader.proofs.law.client_law.Goals as goal

pub returns : goal.returns
returns c = no_client
