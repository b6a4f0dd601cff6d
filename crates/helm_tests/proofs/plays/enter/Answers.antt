-- The client stays a further one.
use Rattle.helm_tests.proofs.Further.{further_on}
use Rattle.helm_tests.proofs.plays.enter.Goals as goal

pub returns-clause-further : goal.returns-clause-further
returns-clause-further g c = further_on c.args.play.now c.enter.new.self c.args.client c.enter.ensures.same c.requires.further
