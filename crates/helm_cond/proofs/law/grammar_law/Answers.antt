use Rattle.helm_cond.proofs.Phrasing.{said_spelled}
use Rattle.helm_cond.proofs.Spelling.{spelled_said}
use Rattle.helm_cond.proofs.law.grammar_law.Goals as goal

pub returns : goal.returns
returns c = λ symbols one. (said_spelled symbols one, spelled_said symbols one)
