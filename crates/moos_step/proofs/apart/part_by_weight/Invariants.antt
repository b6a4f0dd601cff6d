-- Of the clients below this one, those with lines are parted from the first, and it is the next that has some.
use Rattle.std.proofs.Common.{◌≡◌, ◌+◌, ◌-◌, ◌<◌, ◌≤◌, true}
use Rattle.std.specs.Prelude.{vec_capacity, vec_len}
use Rattle.moos_step.specs.Steps.{apart_in, AreBusy, AreParted, busy_below, has_line}
use Rattle.moos_step.proofs.apart.part_by_weight.Given as goal

abbrev pub invariant-loop-client : goal.invariant-loop-client
invariant-loop-client l = record {
  parted : AreParted l.lock l.fn.first l.first (apart_in l.players);
  busy : AreBusy l.lines l.client (apart_in l.players);
  heavy_room : busy_below l.lines l.clients ≤ vec_capacity l.players.heavy;
  light_room : busy_below l.lines l.clients ≤ vec_capacity l.players.light;
  few : vec_len l.players.heavy + vec_len l.players.light ≡ busy_below l.lines l.client;
  here : l.client < l.clients → has_line l.client l.lines ≡ true;
  above : 0 < l.client;
  within : l.client ≤ l.clients;
}

abbrev pub decreases-loop-client : goal.decreases-loop-client
decreases-loop-client l = l.clients - l.client
