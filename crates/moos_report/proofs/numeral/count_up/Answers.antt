use Rattle.std.proofs.Common.{arith}
use Rattle.moos_report.proofs.Numerals.{counted_up}
use Rattle.moos_report.proofs.numeral.count_up.Goals as goal

pub returns : goal.returns
returns c = counted_up c.args.digits.now c.args.start c.args.number (omega arith) c.requires.digits c.requires.few c.requires.last
