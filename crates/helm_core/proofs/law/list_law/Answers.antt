use Rattle.helm_core.proofs.Births.{always_listed}
use Rattle.helm_core.proofs.Presence.{there_until_complete}
use Rattle.helm_core.proofs.law.list_law.Goals as goal

pub returns : goal.returns
returns c = record { listed = always_listed; there = there_until_complete }
