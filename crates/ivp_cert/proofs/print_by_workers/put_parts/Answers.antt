use Rattle.std.proofs.Common.{sym, ◌∙◌}
use Rattle.moos_io.proofs.BufferedWriting.{leaves_all, leaves_failed, leaves_less}
use Rattle.ivp_cert.specs.Texts.{line_text}
use Rattle.ivp_cert.proofs.Chunks.{parted}
use Rattle.ivp_cert.proofs.print_by_workers.put_parts.Goals as goal

pub loop-left-init : goal.loop-left-init
loop-left-init g c = leaves_all _ _

pub loop-left-preserved : goal.loop-left-preserved
loop-left-preserved g c = leaves_less c.loop-left.invariant (parted (line_text c.args.prefix.now) _ _ _ _ c.split_at.ensures.front c.split_at.ensures.back) c.put_part.ensures

pub returns-then-failed : goal.returns-then-failed
returns-then-failed g c = leaves_failed c.loop-left.invariant (sym c.failed.ensures ∙ c.if-failed.true)
