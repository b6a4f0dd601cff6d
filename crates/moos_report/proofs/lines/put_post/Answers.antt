use Rattle.moos_io.proofs.BufferedWriting.{writes_on}
use Rattle.moos_report.proofs.lines.put_post.Goals as goal

pub returns : goal.returns
returns g c =
    let said = rw (c.bytes.ensures.value, c.print_unsigned-stamp.ensures.text, c.bytes-var.ensures.value) at c.write.ensures in
    writes_on said c.put_value.ensures
