use Rattle.std.proofs.Common.{◌≡◌, ◌≤◌, suc, length, ◌-◌, drop}
use Rattle.moos_text.specs.Lines.{raw_lines}
use Rattle.script_reader.specs.Script.{nothing_read, progress_from, progress}
use Rattle.script_reader.specs.Counts.{AreCounts}
use Rattle.script_reader.proofs.read.read_lines.Given as goal

abbrev pub invariant-loop-from : goal.invariant-loop-from
invariant-loop-from l = record {
  within : l.from ≤ length l.bytes;
  counted : l.number ≤ l.from;
  so_far : progress_from 1 nothing_read (raw_lines l.bytes)
      ≡ progress_from (suc l.number) (progress l.reading.script l.reading.filled) (raw_lines (drop l.from l.bytes));
  counts : AreCounts l.reading.script l.reading.made l.reading.variables l.reading.clients;
}

abbrev pub decreases-loop-from : goal.decreases-loop-from
decreases-loop-from l = length l.bytes - l.from
