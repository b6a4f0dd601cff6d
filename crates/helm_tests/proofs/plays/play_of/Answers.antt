-- Behind the script's client and the helm it is a further client.
use Rattle.std.proofs.Common.{rules}
use Rattle.helm_tests.proofs.Further.{further_third}
use Rattle.helm_tests.proofs.plays.play_of.Goals as goal

pub returns-clause-further : goal.returns-clause-further
returns-clause-further g c =
    further_third c.args.script.now c.helm_run-helm.result c.names-further.result c.in-Ok.play c.requires.one (search rules) c.in-Ok.ensures.script c.in-Ok.ensures.helm c.in-Ok.ensures.names
