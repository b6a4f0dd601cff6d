use Rattle.std.proofs.Common.{◌≡◌, ◌≤◌, ◌-◌, length}
use Rattle.ivp_problem.specs.declared.key.Key.{Key}
use Rattle.ivp_problem.specs.Found.{IsKnownSum, IsOwnKey}
use Rattle.ivp_problem.specs.Keys.{Reaches}
use Rattle.ivp_problem.proofs.Pieces.{children_to}
use Rattle.ivp_pool.proofs.Growing.{Searched}
use Rattle.ivp_pool.proofs.close.+close_one.Given as goal

abbrev pub decreases-close_one : goal.decreases-close_one
decreases-close_one g l = length l.problem.now.terms - l.node.depth

-- the children by the pieces so far were searched, and the scout is as it was but for the sum that it knows
abbrev pub invariant-loop-next : goal.invariant-loop-next
invariant-loop-next g l =
    record {
      few : l.from ≤ 4096;
      searched : Searched l.problem (record { low = l.scout.me.0.low; own = l.own.key }) (g.T.Tray.took l.fn.tray) (g.T.Tray.took l.tray) (children_to l.problem l.node l.from) l.closed;
      known : IsKnownSum l.problem l.scout.me.0.low;
      own : IsOwnKey l.problem l.own.key;
      later : l.fn.scout.me.0.low ≤ l.scout.me.0.low;
      greater : (key : Key) → Reaches l.fn.own.key key → Reaches l.own.key key;
      word : l.scout.table_id ≡ l.fn.scout.table_id;
      scout : l.scout.me ≡ (record l.fn.scout.me.0 { low = l.scout.me.0.low }, l.fn.scout.me.1);
      tray : g.T.Tray.problem l.tray ≡ l.problem;
      kept : g.T.Tray.kept l.tray ≡ g.T.Tray.kept l.fn.tray;
    }

abbrev pub decreases-loop-next : goal.decreases-loop-next
decreases-loop-next g l = 4096 - l.from
