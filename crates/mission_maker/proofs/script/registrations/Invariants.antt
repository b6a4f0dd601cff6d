use Rattle.std.proofs.Common.{◌≡◌}
use Rattle.mission_maker.specs.Generated.{registrations}
use Rattle.mission_maker.proofs.script.registrations.Given as goal

-- the registrations so far
abbrev pub invariant-loop-k : goal.invariant-loop-k
invariant-loop-k l = l.lines ≡ registrations l.number l.k
