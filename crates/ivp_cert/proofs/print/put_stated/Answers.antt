use Rattle.std.proofs.Common.{length, ap, ◌∙◌}
use Rattle.moos_io.proofs.BufferedWriting.{writes_as, writes_on}
use Rattle.ivp_cert.specs.Texts.{claim_text}
use Rattle.ivp_cert.proofs.print.put_stated.Goals as goal

pub returns : goal.returns
returns g c =
    let same = ap (λ n. claim_text c.args.prefix.now n c.args.decision.now.claim) (c.axes-axes.ensures.count ∙ ap length c.domain.ensures) in
    writes_on c.put_problem.ensures (writes_as same c.put_claim.ensures)
