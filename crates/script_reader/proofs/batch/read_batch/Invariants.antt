use Rattle.std.proofs.Common.{◌≡◌, [], ◌≤◌, ◌-◌, length, drop}
use Rattle.moos_text.specs.Pairs.{parts_of}
use Rattle.script_reader.specs.Script.{posting, with_parts}
use Rattle.script_reader.proofs.batch.read_batch.Given as goal

abbrev pub invariant-loop-batch : goal.invariant-loop-batch
invariant-loop-batch l = record {
  within : l.from ≤ length l.text;
  so_far : with_parts (posting l.fn.variables []) (parts_of l.text) ≡ with_parts (posting l.variables l.batch) (parts_of (drop l.from l.text));
}

abbrev pub decreases-loop-batch : goal.decreases-loop-batch
decreases-loop-batch l = length l.text - l.from
