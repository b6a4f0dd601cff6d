use Rattle.std.proofs.Common.{◌≡◌, [], take}
use Rattle.ivp_pool.specs.Roots.{child_nodes}
use Rattle.ivp_pool.specs.Solving.{IsWorker, WentOn}
use Rattle.ivp_pool.proofs.alone.close_all.Given as goal

-- the children so far were closed
abbrev pub invariant-loop-child : goal.invariant-loop-child
invariant-loop-child g l =
    record {
      went : WentOn l.problem (child_nodes (take l.child-index l.fn.children)) [] l.fn.worker l.worker;
      worker : IsWorker l.problem l.best l.worker;
      tray : l.none.problem.now ≡ l.problem;
    }
