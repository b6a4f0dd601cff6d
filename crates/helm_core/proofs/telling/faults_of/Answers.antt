use Rattle.helm_core.proofs.Faults.{faults_more}
use Rattle.helm_core.proofs.telling.faults_of.Goals as goal

pub loop-showing-preserved : goal.loop-showing-preserved
loop-showing-preserved c =
    faults_more c.args.showings.now c.loop-showing.showing-index c.showing-item.result c.loop-showing.faults _ c.loop-showing-test.true c.showing-item.is c.in_ok-add_fault.ensures c.loop-showing.invariant
