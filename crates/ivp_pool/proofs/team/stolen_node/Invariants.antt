use Rattle.ivp_pool.specs.Members.{Same}
use Rattle.ivp_pool.proofs.team.stolen_node.Given as goal

-- the worker has taken nothing yet
abbrev pub invariant-loop-step : goal.invariant-loop-step
invariant-loop-step g l = Same l.fn.member l.member
