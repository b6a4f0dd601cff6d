use Rattle.std.proofs.Common.{◌<◌, length, ap, ◌∙◌, arith}
use Rattle.moos_io.proofs.BufferedWriting.{each_none, leaves_all}
use Rattle.ivp_cert.specs.Texts.{term_text}
use Rattle.ivp_cert.proofs.Printing.{terms_less}
use Rattle.ivp_cert.proofs.put_problem.put_terms.Goals as goal

pub loop-number-init : goal.loop-number-init
loop-number-init g c = leaves_all _ _

pub loop-number-preserved : goal.loop-number-preserved
loop-number-preserved g c =
    let problem = c.args.problem.now in
    let many = c.axes-axes.ensures.count ∙ ap length c.domain.ensures in
    let within : c.loop-number.number < length problem.terms = omega (arith, c.loop-number-test.true, c.len-number-end.ensures.len) in
    terms_less c.args.prefix.now problem c.axes-axes.result c.loop-number.number c.weight.result c.func.result.now c.loop-number.invariant within many c.weight.ensures.weight c.func.ensures.func c.put_term.ensures

pub returns : goal.returns
returns g c = each_none (term_text c.args.prefix.now (length c.args.problem.now.axes)) c.args.problem.now.terms c.loop-number.number c.loop-number.invariant (omega (arith, c.loop-number-test.false, c.len-number-end.ensures.len))
