use Rattle.std.proofs.Common.{arith}
use Rattle.ivp_func.proofs.Seeking.{none_left}
use Rattle.ivp_func.proofs.grid.next_meet.Goals as goal

pub returns-else-next-pieces-clause-none : goal.returns-else-next-pieces-clause-none
returns-else-next-pieces-clause-none c = none_left c.args.pieces.now c.args.area.now c.args.from c.next_of-next.result (omega (arith, c.if-next-pieces.false)) c.next_of-next.ensures.least
