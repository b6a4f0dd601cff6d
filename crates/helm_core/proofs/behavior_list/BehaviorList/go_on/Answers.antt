use Rattle.std.proofs.Common.{length, subst, sym}
use Rattle.std.specs.List.{All}
use Rattle.helm_core.specs.Standings.{AreFew, BehaviorListState, IsFitKept}
use Rattle.helm_core.proofs.behavior_list.BehaviorList.go_on.Goals as goal

pub invariant_of-self : goal.invariant_of-self
invariant_of-self c = record {
  few = subst (λ (behavior_list : BehaviorListState). AreFew behavior_list.blocks (length c.args.kept.items)) (sym c.self.view_is) c.requires.few;
  may_step = c.self.invariant.may_step;
  fit = subst (λ (behavior_list : BehaviorListState). All (IsFitKept behavior_list.axes behavior_list.blocks) c.args.kept.items) (sym c.self.view_is) c.requires.fit;
}
