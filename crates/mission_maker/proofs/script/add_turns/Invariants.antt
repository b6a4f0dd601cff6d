use Rattle.std.proofs.Common.{◌≡◌, ◌++◌}
use Rattle.mission_maker.specs.Generated.{turns}
use Rattle.mission_maker.proofs.script.add_turns.Given as goal

-- the turns so far stand behind what was there
abbrev pub invariant-loop-k : goal.invariant-loop-k
invariant-loop-k l = l.lines ≡ l.initial.lines ++ turns l.number l.second l.k
