use Rattle.ivp_cert.specs.Printed.{HasFourPlaces}
use Rattle.ivp_cert.proofs.EachPart.{Below}
use Rattle.ivp_cert.proofs.printed.pieces_print.Given as goal

abbrev pub invariant-loop-number : goal.invariant-loop-number
invariant-loop-number l = Below HasFourPlaces l.func.pieces l.number
