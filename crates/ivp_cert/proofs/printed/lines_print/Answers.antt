use Rattle.std.proofs.Common.{arith}
use Rattle.ivp_cert.specs.Printed.{IsPrintableLine}
use Rattle.ivp_cert.proofs.EachPart.{below_all, below_more, below_none}
use Rattle.ivp_cert.proofs.printed.lines_print.Goals as goal

pub loop-number-init : goal.loop-number-init
loop-number-init c = below_none IsPrintableLine c.args.cert.now

pub loop-number-preserved : goal.loop-number-preserved
loop-number-preserved c = below_more IsPrintableLine c.args.cert.now c.loop-number.number c.get.result.now c.loop-number.invariant c.get.ensures c.line_prints.ensures

pub returns : goal.returns
returns c = below_all IsPrintableLine c.args.cert.now c.loop-number.number (omega (arith, c.loop-number-test.false, c.len-number-end.ensures)) c.loop-number.invariant
