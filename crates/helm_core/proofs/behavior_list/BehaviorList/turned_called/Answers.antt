use Rattle.std.proofs.Common.{◌≡◌, length, subst, subst₂, sym, ◌∙◌}
use Rattle.std.specs.List.{All}
use Rattle.helm_core.specs.Kept.{AreFewFit, AreFit, HasHeardAndTurned, HasTurned}
use Rattle.helm_core.specs.Standings.{HasSpawned, BehaviorListState, IsFitKept, IsSpawning, MaySpawn, behavior_list_of}
use Rattle.helm_core.specs.Templates.{none_spawned, spawned}
use Rattle.helm_core.specs.Ticks.{pairs_mailed}
use Rattle.helm_core.proofs.Spawns.{called_turned, list_few_fit, list_may_spawn}
use Rattle.helm_core.proofs.behavior_list.BehaviorList.turned_called.Goals as goal

pub spawn_all-requires : goal.spawn_all-requires
spawn_all-requires c =
    let own = behavior_list_of c.self.inside.domain c.self.inside.blocks c.self.inside.kept.items in
    record {
      may = subst₂ (λ blocks kept. MaySpawn blocks kept) (sym c.all-blocks.ensures) (sym (c.in_ok-kept.ensures ∙ c.as_slice.ensures.value)) (list_may_spawn own c.self.invariant);
    }

pub turn_all-requires : goal.turn_all-requires
turn_all-requires c =
    let own = behavior_list_of c.self.inside.domain c.self.inside.blocks c.self.inside.kept.items in
    let axes = c.self.inside.domain in
    let copied : c.in_ok-kept.kept.items ≡ c.self.inside.kept.items = c.in_ok-kept.ensures ∙ c.as_slice.ensures.value in
    let more : HasSpawned axes c.self.inside.blocks c.self.inside.kept.items c.spawn_all.new.kept.items
    = subst₂ (λ blocks kept. HasSpawned axes blocks kept c.spawn_all.new.kept.items) c.all-blocks.ensures copied c.in_ok-spawn_all.ensures.more in
    record {
      fit = subst₂ (λ blocks kept. All (IsFitKept axes blocks) kept) (sym c.all-blocks.ensures) (sym c.as_slice-2.ensures.value) (more.fit c.self.invariant.may_step c.self.invariant.fit);
    }

pub returns-clause-turned : goal.returns-clause-turned
returns-clause-turned c =
    let axes = c.self.inside.domain in
    let blocks = c.self.inside.blocks in
    let before = c.self.inside.kept.items in
    let kept = c.spawn_all.new.kept.items in
    let answers = c.spawn_all.new.answers in
    let letters = pairs_mailed c.args.letters.now in
    let copied : c.in_ok-kept.kept.items ≡ before = c.in_ok-kept.ensures ∙ c.as_slice.ensures.value in
    subst (λ (behavior_list : BehaviorListState). HasHeardAndTurned behavior_list c.args.stamp letters c.args.now.now answers c.in_ok-turned.turned) c.self.view_is
    (called_turned (behavior_list_of axes blocks before) c.args.stamp letters c.args.now.now answers kept c.in_ok-turned.turned
    (λ clock at ones is.
    subst (λ all. IsSpawning all clock (spawned axes all at letters ones) kept answers) c.all-blocks.ensures
    (c.in_ok-spawn_all.ensures.spawned clock at ones
    (subst₂ (λ all list. IsSpawning all clock (none_spawned ones) list c.new-answers.result) (sym c.all-blocks.ensures) (sym copied)
    (subst (λ told. IsSpawning blocks clock (none_spawned ones) before told) (sym c.new-answers.ensures) is))))
    (subst₂ (λ all list. HasTurned (behavior_list_of axes all list) c.args.stamp letters c.args.now.now c.in_ok-turned.turned) c.all-blocks.ensures c.as_slice-2.ensures.value c.in_ok-turned.ensures.turned))

pub returns-clause-fit : goal.returns-clause-fit
returns-clause-fit c =
    let axes = c.self.inside.domain in
    let kept = c.spawn_all.new.kept.items in
    let copied : c.in_ok-kept.kept.items ≡ c.self.inside.kept.items = c.in_ok-kept.ensures ∙ c.as_slice.ensures.value in
    let more : HasSpawned axes c.self.inside.blocks c.self.inside.kept.items kept
    = subst₂ (λ blocks list. HasSpawned axes blocks list kept) c.all-blocks.ensures copied c.in_ok-spawn_all.ensures.more in
    subst (λ (behavior_list : BehaviorListState). AreFewFit behavior_list.axes behavior_list.blocks c.in_ok-turned.turned) c.self.view_is
    (list_few_fit (behavior_list_of axes c.self.inside.blocks c.self.inside.kept.items) kept c.in_ok-turned.turned more.may.few
    (subst₂ (λ blocks list. AreFit axes blocks (length list) c.in_ok-turned.turned) c.all-blocks.ensures c.as_slice-2.ensures.value c.in_ok-turned.ensures.fit))
