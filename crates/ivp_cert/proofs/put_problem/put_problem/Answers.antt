use Rattle.std.proofs.Common.{List, ap, flat_map}
use Rattle.moos_io.proofs.BufferedWriting.{writes_as, writes_on}
use Rattle.ivp_domain.specs.declared.axis.Axis.{Axis}
use Rattle.ivp_cert.specs.Texts.{axis_text}
use Rattle.ivp_cert.proofs.put_problem.put_problem.Goals as goal

pub returns : goal.returns
returns g c =
    let same = ap (λ (axes : List Axis). flat_map (axis_text c.args.prefix.now) axes) c.domain.ensures in
    writes_on c.write.ensures (writes_on (writes_as same c.put_axes.ensures) (writes_on c.put_terms.ensures c.write-2.ensures))
