use Rattle.std.proofs.Common.{◌≡◌, ◌++◌, Some, length, map}
use Rattle.std.specs.Vec.Iter.{into_iter_items, into_iter_len}
use Rattle.ivp_problem.specs.Found.{IsOwnKey}
use Rattle.ivp_pool.specs.Teams.{AreBelow, AreWorkers}
use Rattle.ivp_pool.proofs.solved.works_of.Given as goal

-- the workers so far were taken in, and with those that are left they are the team
abbrev pub invariant-loop-member : goal.invariant-loop-member
invariant-loop-member g l =
    record {
      next : (goal.iterator-loop-member g).can_next l.member-iterator;
      finite : (goal.iterator-loop-member g).is_finite l.member-iterator;
      counted : into_iter_len l.member-iterator ≡ length (into_iter_items l.member-iterator);
      taken : l.yielded ++ into_iter_items l.member-iterator ≡ l.fn.team.items;
      rest : AreWorkers l.problem l.best (into_iter_items l.member-iterator);
      works : l.works ≡ map (λ member. member.worker.work) l.yielded;
      owned : IsOwnKey l.problem l.own.key;
      later : AreBelow (record { low = l.scout.me.0.low; own = l.own.key }) l.yielded;
      word : l.scout.table_id ≡ l.best;
      about : l.scout.me.0.about ≡ Some l.problem;
    }
