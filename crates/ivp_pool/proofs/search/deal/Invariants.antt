use Rattle.std.proofs.Common.{◌≡◌, take}
use Rattle.ivp_pool.specs.Roots.{child_nodes}
use Rattle.ivp_pool.specs.Teams.{AllDid, shapes_of}
use Rattle.ivp_pool.proofs.search.deal.Given as goal

-- the children from this one on were dealt
abbrev pub invariant-loop-next : goal.invariant-loop-next
invariant-loop-next g l =
    record {
      did : AllDid l.problem l.best (child_nodes l.fn.children) (child_nodes (take l.next l.fn.children)) l.fn.members l.members;
      same : shapes_of l.members ≡ shapes_of l.fn.members;
      tray : l.none.problem.now ≡ l.problem;
    }
