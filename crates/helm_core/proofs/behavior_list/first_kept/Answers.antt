use Rattle.std.proofs.Common.{◌≡◌, ◌+◌, [], Vec, length, refl, subst, sym, ap, arith, ◌∙◌}
use Rattle.std.specs.Global.{Global}
use Rattle.std.specs.List.{All, AllZip}
use Rattle.std.proofs.lemmas.List.Elements.{All-nil}
use Rattle.std.proofs.lemmas.Option.{slice_get_read}
use Rattle.helm_core.specs.declared.behavior.Behavior.{Behavior}
use Rattle.helm_core.specs.Standings.{IsFitKept, IsKept, MayStep}
use Rattle.helm_core.proofs.Turning.{AreFirst, all_read, first_kept, first_passed}
use Rattle.helm_core.proofs.behavior_list.first_kept.Goals as goal
use Rattle.helm_core.proofs.behavior_list.first_kept.Goals.{then-not-is_template+in_ok-kept_first+in_ok-push, else-not-is_template}

pub kept_first-requires : goal.kept_first-requires
kept_first-requires c = record {
  may_step = all_read (MayStep c.args.domain.now) c.args.blocks.now c.loop-place.place c.index-blocks-place.result c.loop-place-test.true c.index-blocks-place.is c.requires.may_step;
}

pub loop-place-init : goal.loop-place-init
loop-place-init c = record {
  first = record {
    stands = subst (AllZip (IsKept c.args.blocks.now 0) []) (sym c.in_ok-kept.ensures.items) tt;
    fit = subst (All (IsFitKept c.args.domain.now c.args.blocks.now)) (sym c.in_ok-kept.ensures.items) (All-nil (IsFitKept c.args.domain.now c.args.blocks.now));
    counted = let none : length c.in_ok-kept.kept.items ≡ 0 = ap length c.in_ok-kept.ensures.items in omega arith;
  };
}

pub loop-place-preserved : goal.loop-place-preserved
loop-place-preserved c =
    let axes = c.args.domain.now in
    let blocks = c.args.blocks.now in
    let place = c.loop-place.place in
    let block = c.index-blocks-place.result in
    let before = c.loop-place.kept.items in
    let so_far = c.loop-place.invariant.first in
    elim c.if-not-is_template.branch [
      | then-not-is_template+in_ok-kept_first+in_ok-push w ↦
          record {
            first =
                first_kept axes blocks place block before c.if-not-is_template.kept.items w.in_ok-kept_first.field-0 c.loop-place-test.true c.index-blocks-place.is
                (ap (λ (kept : Vec Behavior Global). kept.items) w.kept-is ∙ w.in_ok-push.ensures.items) (sym c.is_template.ensures ∙ w.if-not-is_template.true)
                (w.in_ok-kept_first.ensures.stands blocks (slice_get_read blocks (length blocks) place block refl c.loop-place-test.true c.index-blocks-place.is)) (w.in_ok-kept_first.ensures.fit blocks c.loop-place-test.true) so_far;
          }
      | else-not-is_template w ↦
          record {
            first =
                subst (λ (kept : Vec Behavior Global). AreFirst axes blocks (place + 1) kept.items) (sym w.kept-is)
                (first_passed axes blocks place block before c.loop-place-test.true c.index-blocks-place.is (sym c.is_template.ensures ∙ w.if-not-is_template.false) so_far);
          }
    ]
