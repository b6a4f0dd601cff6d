use Rattle.std.proofs.Common.{length}
use Rattle.helm_core.specs.Standings.{behavior_list_of}
use Rattle.helm_core.specs.Ticks.{pairs_mailed}
use Rattle.helm_core.proofs.Turning.{list_fits, list_turned}
use Rattle.helm_core.proofs.behavior_list.turn_all.Goals as goal

pub returns-clause-turned : goal.returns-clause-turned
returns-clause-turned c =
    list_turned (behavior_list_of c.args.domain.now c.args.blocks.now c.args.kept.now) c.args.stamp (pairs_mailed c.args.letters.now) c.args.now.now c.in_ok-begun.begun.items
    c.in_ok-begun.ensures.begun c.finish_all.result c.finish_all.ensures.turned

pub returns-clause-fit : goal.returns-clause-fit
returns-clause-fit c =
    list_fits c.args.domain.now c.args.blocks.now (length c.args.kept.now) c.in_ok-begun.begun.items c.in_ok-begun.ensures.fit c.in_ok-begun.ensures.one_each
    c.finish_all.result c.finish_all.ensures.fit
