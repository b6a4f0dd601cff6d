use Rattle.std.proofs.Common.{◌≡◌, ℕ, ◌≤◌, List, length, take}
use Rattle.std.specs.List.{All, AllZip}
use Rattle.helm_core.specs.Behaviors.{BhvSoFar}
use Rattle.helm_core.specs.Standings.{BeginsTurn, IsBehaviorListOf, IsFitBegun, SeesView, behavior_list_of}
use Rattle.helm_core.specs.Ticks.{Seen, pairs_mailed}
use Rattle.helm_core.proofs.behavior_list.begin_all.Given as goal

-- the turns so far are those of the first behaviours
abbrev pub invariant-loop-one : goal.invariant-loop-one
invariant-loop-one l = record {
  begun : (clock : ℕ) (seen : Seen) (ones : List BhvSoFar) → clock ≤ l.stamp → SeesView seen l.stamp (pairs_mailed l.letters) l.now → IsBehaviorListOf clock ones (behavior_list_of l.domain l.blocks l.kept)
      → AllZip (BeginsTurn l.domain l.blocks seen) (take l.one-index ones) l.begun.items;
  fit : All (IsFitBegun l.domain l.blocks) l.begun.items;
  counted : length l.begun.items ≡ l.one-index;
}
