use Rattle.std.proofs.Common.{arith, sym}
use Rattle.std.proofs.lemmas.Option.{get_or_from_slice_get, slice_get_within}
use Rattle.moos_io.proofs.BufferedWriting.{each_less, each_none, leaves_all}
use Rattle.ivp_cert.specs.Texts.{axis_text}
use Rattle.ivp_cert.proofs.put_problem.put_axes.Goals as goal

pub loop-number-init : goal.loop-number-init
loop-number-init g c = leaves_all _ _

pub loop-number-preserved : goal.loop-number-preserved
loop-number-preserved g c =
    let all = c.args.domain.now in
    let at = c.axis.ensures.axis in
    each_less (axis_text c.args.prefix.now) all c.loop-number.number c.axis.result c.loop-number.invariant (slice_get_within all c.loop-number.number c.axis.result at) (sym (get_or_from_slice_get all c.loop-number.number c.axis.result c.axis.result at)) c.put_axis.ensures

pub returns : goal.returns
returns g c = each_none (axis_text c.args.prefix.now) c.args.domain.now c.loop-number.number c.loop-number.invariant (omega arith)
