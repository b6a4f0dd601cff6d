use Rattle.std.proofs.Common.{List, [], refl, subst, sym}
use Rattle.bhv_file.specs.declared.file.Block.{Block}
use Rattle.helm_core.specs.Helms.{IsHelmView}
use Rattle.helm_core.specs.Lists.{first_list}
use Rattle.helm_core.specs.Standings.{IsBehaviorListOf}
use Rattle.helm_core.proofs.Rooted.{rooted_behind}
use Rattle.helm_core.proofs.Turning.{all_may_step}
use Rattle.helm_core.proofs.Ticking.{same_plan}
use Rattle.helm_core.proofs.helm.Helm.make.Goals as goal

pub make-modes-requires-clause-rooted : goal.make-modes-requires-clause-rooted
make-modes-requires-clause-rooted c = rooted_behind [] c.args.file.decls c.requires.file.decls

pub make-requires-clause-may_step : goal.make-requires-clause-may_step
make-requires-clause-may_step c = all_may_step c.args.mission.now.domain [] c.args.file.blocks c.requires.file.blocks c.requires.served

pub returns-clause-plan : goal.returns-clause-plan
returns-clause-plan c = same_plan _ c.args.file.opening _ _ _ _ _ c.in_ok-behavior_list.ensures.axes c.make-modes.ensures c.in_ok-behavior_list.ensures.blocks

pub returns-clause-stands : goal.returns-clause-stands
returns-clause-stands c = record {
  clock = refl;
  helm_view = subst (λ decls. IsHelmView decls [] c.in_ok-own.helm_view) refl c.in_ok-own.ensures;
  behavior_list = subst (λ (blocks : List Block). IsBehaviorListOf 0 (first_list blocks) c.in_ok-behavior_list.behavior_list) (sym c.in_ok-behavior_list.ensures.blocks) c.in_ok-behavior_list.ensures.stands;
  allstop = refl;
}
