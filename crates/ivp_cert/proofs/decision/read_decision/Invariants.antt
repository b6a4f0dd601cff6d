use Rattle.std.proofs.Common.{length}
use Rattle.ivp_cert.specs.declared.stage.ProblemStage.TheVariants.{Start}
use Rattle.ivp_cert.specs.declared.phase.DecisionStage.TheVariants.{OfProblem}
use Rattle.ivp_cert.specs.Stages.{HasPoint, phase_after}
use Rattle.ivp_cert.proofs.Reading.{IsRead}
use Rattle.ivp_cert.proofs.decision.read_decision.Given as goal

abbrev pub invariant-loop-line : goal.invariant-loop-line
invariant-loop-line l = record { read : IsRead phase_after (OfProblem Start) l.bytes l.lines l.phase l.left; point : HasPoint l.phase }

abbrev pub decreases-loop-line : goal.decreases-loop-line
decreases-loop-line l = length l.left
