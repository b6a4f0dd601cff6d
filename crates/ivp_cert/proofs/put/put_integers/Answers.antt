use Rattle.std.proofs.Common.{pos}
use Rattle.moos_io.proofs.BufferedWriting.{each_none, read_less}
use Rattle.ivp_cert.specs.Texts.{integer_word}
use Rattle.ivp_cert.proofs.put.put_integers.Goals as goal

pub loop-number-preserved : goal.loop-number-preserved
loop-number-preserved g c = read_less integer_word c.args.numbers.now c.loop-number.number-index (pos 0) c.loop-number.invariant c.loop-number-test.true c.put_integer.ensures

pub returns : goal.returns
returns g c = each_none integer_word c.args.numbers.now c.loop-number.number-index c.loop-number.invariant c.loop-number-test.false
