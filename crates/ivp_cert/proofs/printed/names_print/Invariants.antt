use Rattle.ivp_domain.specs.declared.axis.Axis.{Axis}
use Rattle.ivp_domain.specs.AxisNames.{is_axis_name}
use Rattle.std.specs.Prelude.{IsTrue}
use Rattle.ivp_cert.proofs.EachPart.{Below}
use Rattle.ivp_cert.proofs.printed.names_print.Given as goal

abbrev pub invariant-loop-number : goal.invariant-loop-number
invariant-loop-number l = Below (λ (axis : Axis). IsTrue (is_axis_name axis.name)) l.domain l.number
