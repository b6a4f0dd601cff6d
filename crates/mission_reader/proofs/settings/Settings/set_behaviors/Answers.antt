use Rattle.std.proofs.Common.{ap, arith}
use Rattle.std.specs.Prelude.{Err}
use Rattle.mission_reader.proofs.Names.{bad_refused, long_refused}
use Rattle.mission_reader.proofs.settings.Settings.set_behaviors.Goals as goal

pub returns-in-Err-TooLong-clause-refused : goal.returns-in-Err-TooLong-clause-refused
returns-in-Err-TooLong-clause-refused c =
    let is = (c.in-Err-TooLong.ensures.long c.in-Err-TooLong._len).0 (ap Err c.in-Err-TooLong.field-0-is) in
    long_refused c.args.self.now c.args.name.now (omega (arith, is.0, is.1))

pub returns-in-Err-BadByte-clause-refused : goal.returns-in-Err-BadByte-clause-refused
returns-in-Err-BadByte-clause-refused c =
    let is = (c.in-Err-BadByte.ensures.bad c.in-Err-BadByte._place).0 (ap Err c.in-Err-BadByte.field-0-is) in
    bad_refused c.args.self.now c.args.name.now c.in-Err-BadByte._place is.1
