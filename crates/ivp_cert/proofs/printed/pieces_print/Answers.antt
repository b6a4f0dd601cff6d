use Rattle.std.proofs.Common.{arith}
use Rattle.ivp_cert.specs.Printed.{HasFourPlaces}
use Rattle.ivp_cert.proofs.EachPart.{below_all, below_more, below_none}
use Rattle.ivp_cert.proofs.printed.pieces_print.Goals as goal

pub loop-number-init : goal.loop-number-init
loop-number-init c = below_none HasFourPlaces c.args.func.now.pieces

pub loop-number-preserved : goal.loop-number-preserved
loop-number-preserved c = below_more HasFourPlaces c.args.func.now.pieces c.loop-number.number c.piece.result c.loop-number.invariant c.piece.ensures.piece c.piece_prints.ensures

pub returns : goal.returns
returns c = below_all HasFourPlaces c.args.func.now.pieces c.loop-number.number (omega (arith, c.loop-number-test.false, c.len-number-end.ensures.len)) c.loop-number.invariant
