use Rattle.ivp_cert.specs.Printed.{IsPrintableLine}
use Rattle.ivp_cert.proofs.EachPart.{Below}
use Rattle.ivp_cert.proofs.printed.lines_print.Given as goal

abbrev pub invariant-loop-number : goal.invariant-loop-number
invariant-loop-number l = Below IsPrintableLine l.cert l.number
