use Rattle.crew_laws.proofs.Stopping.{never_slows, no_thrust_at_zero, slows_by_braking, stops_in_steps, stops_in_turns}
use Rattle.crew_laws.proofs.law.braking_law.Goals as goal

pub returns : goal.returns
returns c =
    record {
      slows = slows_by_braking;
      steps = stops_in_steps;
      never = never_slows;
      thrust = no_thrust_at_zero;
      turns = stops_in_turns c.ranges_law.ensures.start c.ranges_law.ensures.step;
    }
