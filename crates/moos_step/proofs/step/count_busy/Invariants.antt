-- Of the clients below this one, so many have lines, and it is the next that has.
use Rattle.std.proofs.Common.{◌≡◌, ◌-◌, ◌<◌, ◌≤◌, true}
use Rattle.moos_step.specs.Steps.{busy_below, has_line}
use Rattle.moos_step.proofs.step.count_busy.Given as goal

abbrev pub invariant-loop-client : goal.invariant-loop-client
invariant-loop-client l = record {
  busy : l.busy ≡ busy_below l.lines l.client;
  few : l.busy < l.client;
  here : l.client < l.clients → has_line l.client l.lines ≡ true;
  within : l.client ≤ l.clients;
}

abbrev pub decreases-loop-client : goal.decreases-loop-client
decreases-loop-client l = l.clients - l.client
