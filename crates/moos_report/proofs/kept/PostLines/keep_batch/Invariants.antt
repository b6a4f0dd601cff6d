-- The lines of the pairs so far are kept, or not.
use Rattle.std.proofs.Common.{◌≡◌, ◌+◌, List, ℕ, map}
use Rattle.moos_report.specs.Lines.{AreLines, StandAt}
use Rattle.moos_report.specs.Report.{said_text}
use Rattle.moos_report.proofs.kept.PostLines.keep_batch.Given as goal

abbrev pub invariant-loop-pair : goal.invariant-loop-pair
invariant-loop-pair l = record {
  number : l.number ≡ l.first + l.pair-index;
  kept : (texts : List (List ℕ)) → StandAt l.first (map (λ pair. said_text l.stamp l.source pair.var pair.value) l.pairs) texts → AreLines texts l.initial.self → AreLines texts l.self;
}
