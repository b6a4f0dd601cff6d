use Rattle.moos_report.proofs.iterations.put_state.Goals as goal

pub returns : goal.returns
returns g c = rw (c.as_bytes-number.ensures.value, c.format.ensures.text, c.bytes.ensures.value, c.print_unsigned-stamp.ensures.text, c.drive_text.ensures) at c.write.ensures
