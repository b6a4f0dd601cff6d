use Rattle.std.proofs.Common.{sym, ◌∙◌}
use Rattle.moos_io.proofs.BufferedWriting.{each_less, each_none, leaves_failed}
use Rattle.ivp_cert.specs.Texts.{line_text}
use Rattle.ivp_cert.proofs.print.put_lines.Goals as goal

pub loop-line-preserved : goal.loop-line-preserved
loop-line-preserved g c = each_less (line_text c.args.prefix.now) c.args.lines.now c.loop-line.line-index c.line-item.result c.loop-line.invariant c.loop-line-test.true c.line-item.is c.put_line.ensures

pub returns-then-failed : goal.returns-then-failed
returns-then-failed g c = leaves_failed c.loop-line.invariant (sym c.failed.ensures ∙ c.if-failed.true)

pub returns : goal.returns
returns g c = each_none (line_text c.args.prefix.now) c.args.lines.now c.loop-line.line-index c.loop-line.invariant c.loop-line-test.false
