use Rattle.moos_lawful.proofs.Going.{completion}
use Rattle.moos_lawful.proofs.law.completion_law.Goals as goal

pub returns : goal.returns
returns g c = λ schedule may history so. completion schedule may history so
