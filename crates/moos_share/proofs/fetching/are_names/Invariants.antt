-- The names so far are the clients'.
use Rattle.std.proofs.Common.{◌≡◌, take}
use Rattle.moos_share.proofs.fetching.are_names.Given as goal

abbrev pub invariant-loop-client : goal.invariant-loop-client
invariant-loop-client l = take l.client l.names ≡ take l.client l.db.names
