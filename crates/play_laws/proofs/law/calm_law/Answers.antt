use Rattle.play_laws.proofs.Calming.{calm_hear_the_same}
use Rattle.play_laws.proofs.law.calm_law.Goals as goal

pub returns : goal.returns
returns c = calm_hear_the_same c.input_law.ensures
