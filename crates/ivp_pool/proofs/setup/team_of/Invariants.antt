use Rattle.std.proofs.Common.{◌≡◌, All, length}
use Rattle.ivp_pool.specs.Members.{IsNewMember}
use Rattle.ivp_pool.proofs.setup.team_of.Given as goal

-- so many members, and the scout as it was
abbrev pub invariant-loop : goal.invariant-loop
invariant-loop g l =
    record {
      len : length l.team.items ≡ l.counter;
      new : All (IsNewMember l.problem l.best 0) l.team.items;
      word : l.scout.table_id ≡ l.best;
      scout : l.scout.me ≡ l.fn.scout.me;
    }
