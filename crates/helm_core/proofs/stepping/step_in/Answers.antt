use Rattle.helm_cond.specs.Infos.{knowledge_of}
use Rattle.helm_core.proofs.Doing.{stepped_run}
use Rattle.helm_core.proofs.Hearing.{stepped_none}
use Rattle.helm_core.proofs.stepping.step_in.Goals as goal

pub returns-in_default : goal.returns-in_default
returns-in_default c = stepped_none c.args.phase c.args.domain.now (knowledge_of c.args.info.now) c.args.stamp c.args.doer.now c.nothing.result c.in_default.not-Run c.nothing.ensures

pub returns-in-Run : goal.returns-in-Run
returns-in-Run c =
    stepped_run c.step.result c.args.phase c.args.domain.now (knowledge_of c.args.info.now) c.args.stamp c.in-Run.fresh c.args.doer.now c.step.new.self c.in-Run.is c.step.ensures.out c.step.ensures.stands
