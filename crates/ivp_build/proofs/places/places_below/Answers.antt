use Rattle.ivp_build.proofs.Searches.{below_part}
use Rattle.ivp_build.proofs.places.places_below.Goals as goal

pub returns : goal.returns
returns c place = below_part c.args.part c.args.last c.args.span place c.requires.part.0 c.requires.last.0 c.requires.span
