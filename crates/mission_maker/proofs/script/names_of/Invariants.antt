use Rattle.std.proofs.Common.{◌≡◌, map, take}
use Rattle.mission_maker.proofs.script.names_of.Given as goal

-- the names so far
abbrev pub invariant-loop-bytes : goal.invariant-loop-bytes
invariant-loop-bytes l = l.names ≡ map (λ bytes. bytes.now) (take l.bytes-index l.spelled)
