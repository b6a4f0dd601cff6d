use Rattle.std.proofs.Common.{arith}
use Rattle.moos_report.proofs.numeral.Numeral.go_to.Goals as goal

pub count_up-requires-clause-few : goal.count_up-requires-clause-few
count_up-requires-clause-few c = omega (arith, (c.is_one_up.ensures c.if-is_one_up.true).0, c.ranges.number)

pub count_up-requires-clause-last : goal.count_up-requires-clause-last
count_up-requires-clause-last c = (c.is_one_up.ensures c.if-is_one_up.true).1
