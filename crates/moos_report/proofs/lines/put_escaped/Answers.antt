use Rattle.moos_io.proofs.BufferedWriting.{leaves_last, leaves_less}
use Rattle.moos_report.proofs.Escapes.{escaped_last, escaped_sign}
use Rattle.moos_report.proofs.lines.put_escaped.Goals as goal

pub returns-in_default : goal.returns-in_default
returns-in_default g c =
    let parted = c.split_plain.ensures in
    leaves_last c.loop-rest.invariant (escaped_last _ _ parted.parts parted.plain c.in_default.len_below) c.write.ensures

pub loop-rest-preserved : goal.loop-rest-preserved
loop-rest-preserved g c =
    let parted = c.split_plain.ensures in
    leaves_less c.loop-rest.invariant (escaped_sign _ _ parted.parts parted.plain parted.sign c.in-len1-up.len_at_least) c.write-in-loop-rest.ensures
