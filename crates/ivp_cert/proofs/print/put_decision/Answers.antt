use Rattle.std.proofs.Common.{ap, flat_map}
use Rattle.moos_io.proofs.BufferedWriting.{writes_as, writes_on}
use Rattle.ivp_cert.specs.Texts.{line_text}
use Rattle.ivp_cert.proofs.Printing.{stated}
use Rattle.ivp_cert.proofs.print.put_decision.Goals as goal

pub returns : goal.returns
returns g c =
    let lines = ap (flat_map (line_text c.args.prefix.now)) c.all.ensures in
    writes_as (stated c.args.prefix.now c.args.decision.now) (writes_on c.put_stated.ensures (writes_on (writes_as lines c.put_lines.ensures) c.write.ensures))
