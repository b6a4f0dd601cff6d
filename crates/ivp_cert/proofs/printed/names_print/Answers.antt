use Rattle.std.proofs.Common.{arith}
use Rattle.std.specs.Prelude.{IsTrue}
use Rattle.ivp_domain.specs.declared.axis.Axis.{Axis}
use Rattle.ivp_domain.specs.AxisNames.{is_axis_name}
use Rattle.ivp_cert.proofs.EachPart.{below_all, below_more, below_none}
use Rattle.ivp_cert.proofs.printed.names_print.Goals as goal

abbrev Named : Axis → Type 0
Named axis = IsTrue (is_axis_name axis.name)

pub loop-number-init : goal.loop-number-init
loop-number-init c = below_none Named c.args.domain.now

pub loop-number-preserved : goal.loop-number-preserved
loop-number-preserved c = below_more Named c.args.domain.now c.loop-number.number c.axis.result c.loop-number.invariant c.axis.ensures.axis c.name_prints.ensures

pub returns : goal.returns
returns c = below_all Named c.args.domain.now c.loop-number.number (omega (arith, c.loop-number-test.false, c.axes-number-end.ensures.count)) c.loop-number.invariant
