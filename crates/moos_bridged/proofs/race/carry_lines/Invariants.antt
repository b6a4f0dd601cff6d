-- The bridge has carried for the lines so far.
use Rattle.std.proofs.Common.{take}
use Rattle.moos_bridged.specs.Racing.{HasCarriedLines, stamps_of}
use Rattle.moos_share.specs.Carrying.{seated}
use Rattle.moos_bridged.proofs.race.carry_lines.Given as goal

abbrev pub invariant-loop-line : goal.invariant-loop-line
invariant-loop-line g l = HasCarriedLines l.first.base (stamps_of (take l.line-index l.lines)) (seated l.fn.bridge l.fn.from l.fn.to) (seated l.bridge l.from l.to)
