use Rattle.std.proofs.Common.{ℕ, List, fold, take}
use Rattle.helm_core.specs.Behaviors.{BhvSoFar}
use Rattle.helm_core.specs.Standings.{HasSpawned, IsSpawning}
use Rattle.helm_core.specs.Templates.{heard_by, none_spawned}
use Rattle.helm_core.specs.Ticks.{pairs_mailed}
use Rattle.helm_core.proofs.spawning.spawn_all.Given as goal

-- the letters to the blocks so far were answered
abbrev pub invariant-loop-place : goal.invariant-loop-place
invariant-loop-place l = record {
  heard : (clock at : ℕ) (ones : List BhvSoFar) → IsSpawning l.blocks clock (none_spawned ones) l.fn.kept.items l.fn.answers
      → IsSpawning l.blocks clock (fold (heard_by l.domain l.blocks at (pairs_mailed l.letters)) (none_spawned ones) (take l.place l.blocks)) l.kept.items l.answers;
  more : HasSpawned l.domain l.blocks l.fn.kept.items l.kept.items;
}
