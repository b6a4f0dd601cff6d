use Rattle.play_laws.proofs.Parting.{parts_are_same}
use Rattle.play_laws.proofs.law.parts_law.Goals as goal

pub returns : goal.returns
returns c = parts_are_same
