use Rattle.std.proofs.Common.{◌≡◌, ◌≤◌, false, length, drop}
use Rattle.std.specs.List.{list_any}
use Rattle.bhv_file.specs.Paths.{is_colon}
use Rattle.bhv_reader.proofs.parent.last_colon.Given as goal

abbrev pub invariant-loop-at : goal.invariant-loop-at
invariant-loop-at l = record {
  within : l.at ≤ length l.text;
  none : list_any is_colon (drop l.at l.text) ≡ false;
}

abbrev pub decreases-loop-at : goal.decreases-loop-at
decreases-loop-at l = l.at
