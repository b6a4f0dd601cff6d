-- So many clients so far.
use Rattle.std.proofs.Common.{◌≡◌, length}
use Rattle.std.specs.List.{All}
use Rattle.moos_db.specs.Clients.{IsBlank}
use Rattle.moos_db.proofs.client.new_clients.Given as goal

abbrev pub invariant-loop-number : goal.invariant-loop-number
invariant-loop-number l = record {
  each : length l.clients.items ≡ l.number;
  blank : All IsBlank l.clients.items;
}
