use Rattle.std.proofs.Common.{ℕ, fold, take}
use Rattle.helm_core.specs.Standings.{HasSpawned, IsSpawning}
use Rattle.helm_core.specs.Templates.{Spawning, heard_to}
use Rattle.helm_core.specs.Ticks.{pairs_mailed}
use Rattle.helm_core.proofs.spawning.hear_all.Given as goal

-- the letters so far were answered
abbrev pub invariant-loop-letter : goal.invariant-loop-letter
invariant-loop-letter l = record {
  heard : (clock at : ℕ) (before : Spawning) → IsSpawning l.blocks clock before l.fn.kept.items l.fn.answers
      → IsSpawning l.blocks clock (fold (heard_to l.domain l.blocks at l.template) before (pairs_mailed (take l.letter-index l.letters))) l.kept.items l.answers;
  more : HasSpawned l.domain l.blocks l.fn.kept.items l.kept.items;
}
