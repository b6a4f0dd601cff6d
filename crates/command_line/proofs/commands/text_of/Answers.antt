-- What `Txt::new` refuses is no text.
use Rattle.std.proofs.Common.{ap, arith, Err}
use Rattle.command_line.proofs.Finding.{long_no_text, bad_no_text}
use Rattle.command_line.proofs.commands.text_of.Goals as goal

pub returns-in-Err-TooLong : goal.returns-in-Err-TooLong
returns-in-Err-TooLong c =
    let long = (c.in-Err-TooLong.ensures.long c.in-Err-TooLong.field-0-0).0 (ap (λ fault. Err fault) c.in-Err-TooLong.field-0-is) in
    long_no_text c.args.bytes.now (omega (arith, long.0, long.1))

pub returns-in-Err-BadByte : goal.returns-in-Err-BadByte
returns-in-Err-BadByte c =
    let bad = (c.in-Err-BadByte.ensures.bad c.in-Err-BadByte.field-0-0).0 (ap (λ fault. Err fault) c.in-Err-BadByte.field-0-is) in
    bad_no_text c.args.bytes.now c.in-Err-BadByte.field-0-0 bad.0 bad.1
