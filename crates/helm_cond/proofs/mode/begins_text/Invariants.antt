use Rattle.std.proofs.Common.{◌≡◌, length}
use Rattle.helm_cond.specs.Modes.{begins_text}
use Rattle.helm_cond.proofs.mode.begins_text.Given as goal

abbrev pub invariant-bytes : goal.invariant-bytes
invariant-bytes l = begins_text l.text l.mode ≡ begins_text l.left l.rest

abbrev pub decreases-bytes : goal.decreases-bytes
decreases-bytes l = length l.left
