use Rattle.std.proofs.Common.{◌≡◌, ◌≤◌, suc, length, ◌-◌, drop}
use Rattle.moos_text.specs.Lines.{raw_lines}
use Rattle.script_reader.specs.Named.{client_line_from}
use Rattle.script_reader.proofs.client_line.line_of_client.Given as goal

-- none of the lines so far is one of the clients'
abbrev pub invariant-loop-from : goal.invariant-loop-from
invariant-loop-from l = record {
  within : l.from ≤ length l.bytes;
  counted : l.number ≤ l.from;
  so_far : client_line_from 1 l.names (raw_lines l.bytes) ≡ client_line_from (suc l.number) l.names (raw_lines (drop l.from l.bytes));
}

abbrev pub decreases-loop-from : goal.decreases-loop-from
decreases-loop-from l = length l.bytes - l.from
