use Rattle.ivp_pool.specs.Members.{Did}
use Rattle.ivp_pool.specs.Solving.{IsWorker}
use Rattle.ivp_pool.proofs.team.work.Given as goal

-- what the worker did so far
abbrev pub invariant-loop : goal.invariant-loop
invariant-loop g l = record { worker : IsWorker l.problem l.best l.member.worker; did : Did l.problem l.fn.member l.member }
