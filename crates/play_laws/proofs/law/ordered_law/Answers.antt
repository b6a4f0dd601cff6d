use Rattle.play_laws.proofs.Ordering.{ordered_is_sole}
use Rattle.play_laws.proofs.Playing.{each_has_ordered, rising_is_ordered}
use Rattle.play_laws.proofs.law.ordered_law.Goals as goal

pub returns : goal.returns
returns c = record { each = each_has_ordered c.input_law.ensures; sole = ordered_is_sole c.input_law.ensures; rising = rising_is_ordered c.input_law.ensures }
