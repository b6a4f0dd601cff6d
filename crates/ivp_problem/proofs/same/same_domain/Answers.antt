use Rattle.std.proofs.Common.{◌+◌, ◌&&◌, drop, sym, ap, ◌∙◌}
use Rattle.ivp_problem.specs.Problems.{same_domain}
use Rattle.ivp_problem.proofs.Makes.{other_length, same_from}
use Rattle.ivp_problem.proofs.same.same_domain.Goals as goal

pub returns-then-axes : goal.returns-then-axes
returns-then-axes c = other_length c.args.a.now c.args.b.now (λ e. c.if-axes.true (c.axes.ensures.count ∙ (e ∙ sym c.axes-2.ensures.count)))

pub returns-then-not-same_axis : goal.returns-then-not-same_axis
returns-then-not-same_axis c =
    let step = same_from c.args.a.now c.args.b.now c.loop-axis.axis c.axis.result c.axis-in-loop-axis.result c.axis.ensures.axis c.axis-in-loop-axis.ensures.axis in
    let other = sym c.if-not-same_axis.true ∙ c.same_axis.ensures in
    ap (λ t. t && same_domain (drop (c.loop-axis.axis + 1) c.args.a.now) (drop (c.loop-axis.axis + 1) c.args.b.now)) other ∙ (sym step ∙ c.loop-axis.invariant)

pub loop-axis-preserved : goal.loop-axis-preserved
loop-axis-preserved c =
    let step = same_from c.args.a.now c.args.b.now c.loop-axis.axis c.axis.result c.axis-in-loop-axis.result c.axis.ensures.axis c.axis-in-loop-axis.ensures.axis in
    let same = sym c.if-not-same_axis.false ∙ c.same_axis.ensures in
    ap (λ t. t && same_domain (drop (c.loop-axis.axis + 1) c.args.a.now) (drop (c.loop-axis.axis + 1) c.args.b.now)) same ∙ (sym step ∙ c.loop-axis.invariant)
