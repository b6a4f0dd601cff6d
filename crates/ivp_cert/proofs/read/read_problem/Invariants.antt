use Rattle.std.proofs.Common.{length}
use Rattle.ivp_cert.specs.declared.stage.ProblemStage.TheVariants.{Start}
use Rattle.ivp_cert.specs.Stages.{stage_after}
use Rattle.ivp_cert.proofs.Reading.{IsRead}
use Rattle.ivp_cert.proofs.read.read_problem.Given as goal

abbrev pub invariant-loop-line : goal.invariant-loop-line
invariant-loop-line l = IsRead stage_after Start l.bytes l.lines l.stage l.left

abbrev pub decreases-loop-line : goal.decreases-loop-line
decreases-loop-line l = length l.left
