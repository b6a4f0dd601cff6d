use Rattle.std.proofs.Common.{◌≡◌, ◌∙◌, ap, arith, drop, sym, true}
use Rattle.moos_bridged.proofs.Lines.{cut_more, cut_none, next_within, rest_is}
use Rattle.moos_bridged.specs.Communities.{is_next}
use Rattle.moos_bridged.proofs.community.stamp_end.Goals as goal

pub loop-to-init : goal.loop-to-init
loop-to-init c = record { more = omega arith; within = c.requires; one = cut_none c.args.from c.args.stamp c.args.lines.now }

pub loop-to-preserved : goal.loop-to-preserved
loop-to-preserved c =
    let lines = c.args.lines.now in
    let next : is_next c.args.stamp (drop c.loop-to.to lines) ≡ true = ap (is_next c.args.stamp) (sym (rest_is c.loop-to.to lines)) ∙ sym c.is_next.ensures ∙ c.loop-to-test.true in
    record {
      more = omega (arith, c.loop-to.invariant.more);
      within = omega (arith, next_within c.loop-to.to c.args.stamp lines next);
      one = cut_more c.args.from c.loop-to.to c.args.stamp lines c.loop-to.invariant.more next c.loop-to.invariant.one;
    }

pub loop-to-smaller : goal.loop-to-smaller
loop-to-smaller c =
    let lines = c.args.lines.now in
    let next : is_next c.args.stamp (drop c.loop-to.to lines) ≡ true = ap (is_next c.args.stamp) (sym (rest_is c.loop-to.to lines)) ∙ sym c.is_next.ensures ∙ c.loop-to-test.true in
    omega (arith, next_within c.loop-to.to c.args.stamp lines next)

pub returns : goal.returns
returns c = record {
  more = c.loop-to.invariant.more;
  within = c.loop-to.invariant.within;
  one = c.loop-to.invariant.one;
  over = ap (is_next c.args.stamp) (sym (rest_is c.loop-to.to c.args.lines.now)) ∙ sym c.is_next.ensures ∙ c.loop-to-test.false;
}
