-- What a crew may rely on, of a helm of valid files, all together.
use Rattle.helm_core.specs.Plans.{Plan}
use Rattle.helm_laws.specs.Bargains.{NothingForNothing}
use Rattle.helm_laws.specs.Bounds.{BoundsKept, DepthKept, WorthIsBounded}
use Rattle.helm_laws.specs.Desires.{DesiresInDomain}
use Rattle.helm_laws.specs.Influences.{WithoutInfluence}
use Rattle.helm_laws.specs.Inputs.{SameInputSameIteration}
use Rattle.helm_laws.specs.Overrides.{HoldsFromOverride, ParkedBeforeOverride, ParkedDecideNothing, SilentWhileParked}
use Rattle.helm_laws.specs.Regions.{FaultStops}
use Rattle.helm_laws.specs.Stops.{DrivesOtherwise, ReasonIsTold, StaysStopped, StoppedDecideNothing, StopsAtOnce}

-- Whatever the helm of this plan hears, each of these holds of it: it stops and stays stopped, and says so; it desires what is in its
-- domain; behaviours without a say have no influence; a fault stops it; bounds that outweigh the others are kept, and none is given up
-- for nothing; an override holds; and what it hears is all that counts.
pub record IsReliable (plan : Plan) : Type 0 where
  pub stops : StopsAtOnce plan
  pub stays : StaysStopped plan
  pub drives : DrivesOtherwise plan
  pub told : ReasonIsTold plan
  pub stopped : StoppedDecideNothing plan
  pub domain : DesiresInDomain plan
  pub influence : WithoutInfluence plan
  pub faults : FaultStops plan
  pub bounds : BoundsKept plan
  pub worth : WorthIsBounded plan
  pub depths : DepthKept plan
  pub bargains : NothingForNothing plan
  pub before : ParkedBeforeOverride plan
  pub override : HoldsFromOverride plan
  pub parked : ParkedDecideNothing plan
  pub silent : SilentWhileParked plan
  pub input : SameInputSameIteration plan
