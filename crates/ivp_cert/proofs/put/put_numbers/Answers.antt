use Rattle.moos_io.proofs.BufferedWriting.{each_none, read_less}
use Rattle.ivp_cert.specs.Texts.{number_word}
use Rattle.ivp_cert.proofs.put.put_numbers.Goals as goal

pub loop-number-preserved : goal.loop-number-preserved
loop-number-preserved g c = read_less number_word c.args.numbers.now c.loop-number.number-index 0 c.loop-number.invariant c.loop-number-test.true c.put_number.ensures

pub returns : goal.returns
returns g c = each_none number_word c.args.numbers.now c.loop-number.number-index c.loop-number.invariant c.loop-number-test.false
