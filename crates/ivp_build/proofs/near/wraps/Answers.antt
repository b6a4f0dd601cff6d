use Rattle.std.proofs.Common.{sym, ◌∙◌, arith}
use Rattle.ivp_build.proofs.GoodAxes.{good_parts, high_cast, high_most}
use Rattle.ivp_build.proofs.near.wraps.Goals.{then-eq, else-eq}
use Rattle.ivp_build.proofs.near.wraps.Goals as goal

pub overflow_cast-axis : goal.overflow_cast-axis
overflow_cast-axis c =
    elim c.if-eq.branch [
      | then-eq w ↦ high_cast c.args.axis.now c.requires.good (sym w.value-is ∙ c.if-axis-eq0.true)
      | else-eq w ↦ absurd (cc (w.value-is, w.if-eq.false, c.if-axis-eq0.true))
    ]

pub ends_before_circle-requires-clause-high : goal.ends_before_circle-requires-clause-high
ends_before_circle-requires-clause-high c =
    elim c.if-eq.branch [
      | then-eq w ↦ high_most c.args.axis.now c.requires.good (sym w.value-is ∙ c.if-axis-eq0.true)
      | else-eq w ↦ absurd (cc (w.value-is, w.if-eq.false, c.if-axis-eq0.true))
    ]

pub ends_before_circle-requires-clause-some : goal.ends_before_circle-requires-clause-some
ends_before_circle-requires-clause-some c = let good = good_parts c.args.axis.now c.requires.good in omega arith
