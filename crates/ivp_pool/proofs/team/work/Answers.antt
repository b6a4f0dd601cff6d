use Rattle.ivp_pool.specs.Members.{TookNode}
use Rattle.ivp_pool.proofs.Members.{did_next, did_none, popped, put_from_kept, stolen_next}
use Rattle.ivp_pool.proofs.team.work.Goals as goal
use Rattle.ivp_pool.proofs.team.work.Goals.{in-Some-pop, in-None-pop+in-Some-stolen_node}

pub loop-init : goal.loop-init
loop-init g c = record { worker = c.requires.worker; did = did_none c.args.problem.now c.args.member.now }

pub loop-preserved : goal.loop-preserved
loop-preserved g c =
    let problem = c.args.problem.now in
    let old = c.loop.member in
    let mid = c.match-pop.member in
    let went = c.close_next.ensures.went in
    let took : TookNode c.match-pop.node old mid =
    elim c.match-pop.branch [
      | in-Some-pop w ↦ rw (w.member-is, w.node-is) (popped w.in-Some-pop.own old c.pop.new.self w.in-Some-pop.ensures.1)
      | in-None-pop+in-Some-stolen_node w ↦
          rw (w.member-is, w.node-is)
          (stolen_next w.in-Some-stolen_node.stolen old w.stolen_node.new.member c.pop.new.self w.in-None-pop.ensures.0 w.in-Some-stolen_node.ensures.1)
    ]
    in
    record {
      worker = c.close_next.ensures.worker;
      did = did_next problem c.match-pop.node went.0 c.args.member.now old mid c.close_next.new.worker c.close_next.new.tray c.loop.invariant.did took went.2
          (put_from_kept mid.deque c.close_next.new.tray went.0 went.1 c.close_next.ensures.kept);
    }
