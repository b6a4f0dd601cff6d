use Rattle.std.proofs.Common.{◌≡◌, false, length, subst, subst₂, sym}
use Rattle.std.specs.List.{All, list_any}
use Rattle.helm_core.specs.Kept.{AreFewFit, AreFit, HasHeardAndTurned, HasTurned}
use Rattle.helm_core.specs.Standings.{BehaviorListState, IsFitKept, behavior_list_of, is_called_in}
use Rattle.helm_core.specs.Ticks.{pairs_mailed}
use Rattle.helm_core.proofs.Spawns.{list_few_fit, uncalled_turned}
use Rattle.helm_core.proofs.behavior_list.BehaviorList.turned_uncalled.Goals as goal

pub turn_all-requires : goal.turn_all-requires
turn_all-requires c = record {
  fit = subst₂ (λ blocks kept. All (IsFitKept c.self.inside.domain blocks) kept) (sym c.all-blocks.ensures) (sym c.as_slice-kept.ensures.value) c.self.invariant.fit;
}

pub returns-clause-turned : goal.returns-clause-turned
returns-clause-turned c =
    let axes = c.self.inside.domain in
    let letters = pairs_mailed c.args.letters.now in
    subst (λ (behavior_list : BehaviorListState). HasHeardAndTurned behavior_list c.args.stamp letters c.args.now.now c.new.result c.in_ok-turned.turned) c.self.view_is
    (uncalled_turned (behavior_list_of axes c.self.inside.blocks c.self.inside.kept.items) c.args.stamp letters c.args.now.now c.new.result c.in_ok-turned.turned
    (subst (λ (behavior_list : BehaviorListState). list_any (is_called_in letters) behavior_list.blocks ≡ false) (sym c.self.view_is) c.requires.uncalled) c.new.ensures
    (subst₂ (λ blocks kept. HasTurned (behavior_list_of axes blocks kept) c.args.stamp letters c.args.now.now c.in_ok-turned.turned) c.all-blocks.ensures c.as_slice-kept.ensures.value c.in_ok-turned.ensures.turned))

pub returns-clause-fit : goal.returns-clause-fit
returns-clause-fit c =
    let axes = c.self.inside.domain in
    subst (λ (behavior_list : BehaviorListState). AreFewFit behavior_list.axes behavior_list.blocks c.in_ok-turned.turned) c.self.view_is
    (list_few_fit (behavior_list_of axes c.self.inside.blocks c.self.inside.kept.items) c.self.inside.kept.items c.in_ok-turned.turned c.self.invariant.few
    (subst₂ (λ blocks kept. AreFit axes blocks (length kept) c.in_ok-turned.turned) c.all-blocks.ensures c.as_slice-kept.ensures.value c.in_ok-turned.ensures.fit))
