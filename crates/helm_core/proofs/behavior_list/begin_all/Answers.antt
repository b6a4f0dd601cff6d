use Rattle.std.proofs.Common.{◌≡◌, [], Some, length, sym, ap, subst, ◌∙◌, refl, arith}
use Rattle.std.specs.Prelude.{slice_get}
use Rattle.std.specs.List.{All, AllZip}
use Rattle.std.proofs.lemmas.List.{take_all}
use Rattle.std.proofs.lemmas.List.Elements.{All-nil, All-push}
use Rattle.std.proofs.lemmas.Option.{slice_get_read}
use Rattle.bhv_file.specs.declared.file.Block.{Block}
use Rattle.helm_core.specs.Standings.{BeginsTurn, IsFitBegun, IsFitKept}
use Rattle.helm_core.proofs.Living.{begun_more, long_as_kept}
use Rattle.helm_core.proofs.Turning.{all_read, length_more}
use Rattle.helm_core.proofs.behavior_list.begin_all.Goals as goal

pub bounds-blocks-one : goal.bounds-blocks-one
bounds-blocks-one c =
    let fit : IsFitKept c.args.domain.now c.args.blocks.now c.one-item.result
    = all_read (IsFitKept c.args.domain.now c.args.blocks.now) c.args.kept.now c.loop-one.one-index c.one-item.result c.loop-one-test.true c.one-item.is c.requires.fit in
    fit.within

pub begin-requires : goal.begin-requires
begin-requires c =
    let fit : IsFitKept c.args.domain.now c.args.blocks.now c.one-item.result
    = all_read (IsFitKept c.args.domain.now c.args.blocks.now) c.args.kept.now c.loop-one.one-index c.one-item.result c.loop-one-test.true c.one-item.is c.requires.fit in
    record { ready = fit.ready }

pub loop-one-init : goal.loop-one-init
loop-one-init c = record {
  begun = λ clock seen ones later sees stands. subst (AllZip (BeginsTurn c.args.domain.now c.args.blocks.now seen) []) (sym c.in_ok-begun.ensures.items) tt;
  fit = subst (All (IsFitBegun c.args.domain.now c.args.blocks.now)) (sym c.in_ok-begun.ensures.items) (All-nil (IsFitBegun c.args.domain.now c.args.blocks.now));
  counted = ap length c.in_ok-begun.ensures.items;
}

pub loop-one-preserved : goal.loop-one-preserved
loop-one-preserved c =
    let place = c.loop-one.one-index in
    let axes = c.args.domain.now in
    let blocks = c.args.blocks.now in
    let kept = c.args.kept.now in
    let one = c.one-item.result in
    let block = c.index-blocks-one.result in
    let fit : IsFitKept axes blocks one = all_read (IsFitKept axes blocks) kept place one c.loop-one-test.true c.one-item.is c.requires.fit in
    let within : slice_get blocks one.block ≡ Some block = slice_get_read blocks (length blocks) one.block block refl fit.within c.index-blocks-one.is in
    let there : slice_get kept place ≡ Some one = slice_get_read kept (length kept) place one refl c.loop-one-test.true c.one-item.is in
    record {
      begun = λ clock seen ones later sees stands.
          subst (AllZip (BeginsTurn axes blocks seen) _) (sym c.in_ok-push.ensures.items)
          (begun_more axes blocks clock seen ones kept place one block c.loop-one.begun.items c.in_ok-begin.field-0 stands there within
          (λ standing of is. c.in_ok-begin.ensures.begins blocks clock seen standing later sees (ap (λ (b : Block). b.common) (of ∙ c.index-blocks-one.is)) is) (c.loop-one.invariant.begun clock seen ones later sees stands));
      fit =
          subst (All (IsFitBegun axes blocks)) (sym c.in_ok-push.ensures.items)
          (All-push (IsFitBegun axes blocks) c.loop-one.begun.items c.in_ok-begin.field-0 c.loop-one.invariant.fit (c.in_ok-begin.ensures.fit blocks fit.within));
      counted = ap length c.in_ok-push.ensures.items ∙ length_more c.loop-one.begun.items c.in_ok-begin.field-0 place c.loop-one.invariant.counted;
    }

pub returns-clause-begun : goal.returns-clause-begun
returns-clause-begun c clock seen ones later sees stands =
    let long : length ones ≡ length c.args.kept.now = long_as_kept c.args.blocks.now clock ones c.args.kept.now stands in
    subst (λ list. AllZip (BeginsTurn c.args.domain.now c.args.blocks.now seen) list c.loop-one.begun.items) (take_all c.loop-one.one-index ones (omega (arith, long, c.loop-one-test.false)))
    (c.loop-one.invariant.begun clock seen ones later sees stands)

pub returns-clause-fit : goal.returns-clause-fit
returns-clause-fit c = c.loop-one.invariant.fit

pub returns-clause-one_each : goal.returns-clause-one_each
returns-clause-one_each c = let counted = c.loop-one.invariant.counted in let most = c.loop-one.auto.one-index-end in omega (arith, c.loop-one-test.false)
