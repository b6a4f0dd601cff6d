use Rattle.std.proofs.Common.{arith, rules}
use Rattle.moos_text.proofs.RoundTrip.{whole_short}
use Rattle.moos_text.proofs.milli_text.write_unsigned.Goals as goal

pub write_digits-requires : goal.write_digits-requires
write_digits-requires c = search (rules, whole_short c.args.n (omega arith))

pub returns-clause-room : goal.returns-clause-room
returns-clause-room c = omega (arith, whole_short c.args.n (omega arith))
