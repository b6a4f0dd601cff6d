use Rattle.moos_verdict.proofs.Nexts.{reports_ask}
use Rattle.moos_verdict.proofs.law.asked_law.Goals as goal

pub returns : goal.returns
returns c = λ setup names history more entry before iterations within. reports_ask c.parts_law.ensures.fronts setup names history more entry before iterations within
