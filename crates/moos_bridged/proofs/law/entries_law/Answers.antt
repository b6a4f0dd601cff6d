use Rattle.moos_bridged.proofs.Entries.{entries_shared}
use Rattle.moos_bridged.proofs.law.entries_law.Goals as goal

pub returns : goal.returns
returns c = entries_shared
