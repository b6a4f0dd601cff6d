use Rattle.helm_core.proofs.Doing.{heard_text}
use Rattle.helm_core.proofs.judging.judge.Goals as goal

pub returns-in-Text : goal.returns-in-Text
returns-in-Text c = record {
  judged = heard_text c.update.result c.args.domain.now c.in-Text.text c.args.value.now c.args.doer.now c.update.new.self c.in-Text.is c.update.ensures.good c.update.ensures.stands;
}
