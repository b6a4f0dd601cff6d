use Rattle.std.proofs.Common.{codes, ◌++◌}
use Rattle.moos_io.proofs.BufferedWriting.{writes_on}
use Rattle.moos_report.specs.Report.{value_text}
use Rattle.moos_report.proofs.Reporting.{mail_line}
use Rattle.moos_report.proofs.lines.put_mail.Goals as goal

pub returns : goal.returns
returns g c =
    let pair = c.args.pair.now in
    let value = value_text pair.value ++ codes "\n" in
    let said = rw (c.bytes-seconds.ensures.value, c.print_unsigned-stamp.ensures.text, c.bytes-var.ensures.value) at c.write.ensures in
    rw (mail_line c.args.digits.now c.args.stamp pair.var c.args.source.now value) at (writes_on said c.put_value.ensures)
