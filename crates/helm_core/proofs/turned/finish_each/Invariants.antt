use Rattle.std.proofs.Common.{◌≡◌, ◌≤◌, ◌+◌, List, length}
use Rattle.std.specs.List.{All, AllZip}
use Rattle.std.specs.Vec.Iter.{into_iter_items, into_iter_len}
use Rattle.ivp_domain.specs.declared.axis.Axis.{Axis}
use Rattle.bhv_file.specs.declared.file.Block.{Block}
use Rattle.helm_core.specs.Behaviors.{TurnSoFar}
use Rattle.helm_core.specs.Standings.{IsBegun, IsFitBegun}
use Rattle.helm_core.specs.Ticks.{Seen}
use Rattle.helm_core.proofs.Turning.{AreFitSoFar, HasEnded}
use Rattle.helm_core.proofs.turned.finish_each.Given as goal

-- the turns so far have ended, and what is left is to end
abbrev pub invariant-loop-one : goal.invariant-loop-one
invariant-loop-one l = record {
  counted : into_iter_len l.one-iterator ≡ length (into_iter_items l.one-iterator);
  turned : (blocks : List Block) (seen : Seen) (ones : List TurnSoFar) → AllZip (IsBegun blocks seen) ones l.fn.begun.items → HasEnded blocks seen l.fault ones l.turned.kept.items l.turned.showings.items (into_iter_items l.one-iterator);
  fit : (axes : List Axis) (blocks : List Block) → All (IsFitBegun axes blocks) l.fn.begun.items → AreFitSoFar axes blocks l.turned.kept.items l.turned.showings.items (into_iter_items l.one-iterator);
  kept_few : length l.turned.kept.items + length (into_iter_items l.one-iterator) ≤ length l.fn.begun.items;
  shown_each : length l.turned.showings.items + length (into_iter_items l.one-iterator) ≡ length l.fn.begun.items;
}
