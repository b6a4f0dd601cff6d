use Rattle.std.proofs.Common.{◌≡◌, ◌+◌, length, subst, arith}
use Rattle.std.specs.List.{All, AllZip, count_by}
use Rattle.helm_core.specs.Lists.{first_list}
use Rattle.helm_core.specs.Plans.{is_template}
use Rattle.helm_core.specs.Standings.{IsFitKept, IsKept}
use Rattle.helm_core.proofs.behavior_list.BehaviorList.make.Goals as goal

pub invariant_of-result : goal.invariant_of-result
invariant_of-result c =
    let kept = c.in_ok-kept.kept.items in
    let each : count_by is_template c.args.blocks + length kept ≡ length c.args.blocks = subst (λ blocks. count_by is_template blocks + length kept ≡ length blocks) c.all.ensures c.in_ok-kept.ensures.few in
    record {
      few = omega (arith, each, c.requires.few);
      may_step = c.requires.may_step;
      fit = subst (λ blocks. All (IsFitKept c.args.domain blocks) kept) c.all.ensures c.in_ok-kept.ensures.fit;
    }

pub returns-clause-stands : goal.returns-clause-stands
returns-clause-stands c = subst (λ blocks. AllZip (IsKept blocks 0) (first_list blocks) c.in_ok-kept.kept.items) c.all.ensures c.in_ok-kept.ensures.stands
