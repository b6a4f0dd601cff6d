use Rattle.helm_core.proofs.Doing.{avoid_updated, kind_updated}
use Rattle.helm_core.proofs.doer.Doer.update.Goals as goal

pub returns-in-Kind-clause-stands : goal.returns-in-Kind-clause-stands
returns-in-Kind-clause-stands c = kind_updated c.update.result c.args.domain.now c.args.text.now c.args.self.now c.in-Kind.kind c.update.new.self c.in-Kind.is c.update.ensures.stands

pub returns-in-Avoid-clause-stands : goal.returns-in-Avoid-clause-stands
returns-in-Avoid-clause-stands c =
    avoid_updated c.update-in-Avoid.result c.args.domain.now c.args.text.now c.args.self.now c.in-Avoid.avoid c.update-in-Avoid.new.self c.in-Avoid.is c.update-in-Avoid.ensures.good
    c.update-in-Avoid.ensures.bad
