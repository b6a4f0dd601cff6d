-- So many contacts are settled.
use Rattle.std.proofs.Common.{◌≡◌, ◌++◌, drop, map, take, vec_len}
use Rattle.contact_avoid.specs.Kept.{settled}
use Rattle.contact_avoid.proofs.known_contacts.settle_all.Given as goal

abbrev pub invariant-loop-k : goal.invariant-loop-k
invariant-loop-k l = record {
  settled : l.contacts.items ≡ map (settled l.ranges l.own) (take l.k l.fn.contacts.items) ++ drop l.k l.fn.contacts.items;
  len : vec_len l.contacts ≡ vec_len l.fn.contacts;
}
