use Rattle.std.proofs.Common.{◌≡◌, ◌++◌}
use Rattle.mission_maker.specs.Generated.{seconds}
use Rattle.mission_maker.proofs.script.add_seconds.Given as goal

-- the seconds so far stand behind what was there
abbrev pub invariant-loop-second : goal.invariant-loop-second
invariant-loop-second l = l.lines ≡ l.initial.lines ++ seconds l.number l.second
