use Rattle.std.proofs.Common.{◌≡◌, List, length}
use Rattle.ivp_cert.specs.declared.cert.Line.{Line}
use Rattle.ivp_cert.specs.Dealing.{dealt}
use Rattle.ivp_cert.proofs.Dealing.{AreJoined}
use Rattle.ivp_cert.proofs.by_workers.joined.Given as goal

-- so many are joined, and no share goes missing
abbrev pub invariant-loop : goal.invariant-loop
invariant-loop l = record {
  some : length l.shares.items ≡ length l.fn.shares.items;
  joined : (cuts : List (List Line)) → length cuts ≡ l.many → l.fn.shares.items ≡ dealt (length l.fn.shares.items) cuts → AreJoined (length l.fn.shares.items) cuts l.counter l.shares.items l.lines.items;
}
