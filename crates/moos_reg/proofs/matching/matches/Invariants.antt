use Rattle.std.proofs.Common.{◌+◌, ◌*◌, ◌≤◌, length}
use Rattle.moos_reg.proofs.Tries.{Tries, later, room, behind}
use Rattle.moos_reg.proofs.matching.matches.Given as goal

abbrev pub invariant-loop-name : goal.invariant-loop-name
invariant-loop-name l = record {
  tries : Tries l.p l.s l.pattern l.name (later l.star);
  left : length l.pattern ≤ length l.p;
  after : behind l.star ≤ length l.p;
  rest : length l.name ≤ room (length l.s) l.star;
}

-- a star is tried again at less of the name, and a step of a try leaves less of the pattern
abbrev pub decreases-loop-name : goal.decreases-loop-name
decreases-loop-name l = room (length l.s) l.star * (length l.p + 1) + length l.pattern
