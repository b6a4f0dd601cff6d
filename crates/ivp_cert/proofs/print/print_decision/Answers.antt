use Rattle.std.proofs.Common.{rules}
use Rattle.moos_io.proofs.BufferedWriting.{delivered}
use Rattle.ivp_cert.proofs.print.print_decision.Goals as goal

pub returns : goal.returns
returns g c =
    let told = rw c.new-writer.ensures.now at (delivered c.finish.result c.new-writer.ensures.going c.new-writer.ensures.empty c.put_decision.ensures c.finish.ensures) in
    search (rules, told)
