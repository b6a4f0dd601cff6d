use Rattle.std.proofs.Common.{◌≡◌, drop}
use Rattle.helm_core.specs.Kept.{parked_after}
use Rattle.helm_core.specs.Ticks.{pairs_mailed}
use Rattle.helm_core.proofs.helm_view.parked_after.Given as goal

-- With what is left it comes to what all letters come to.
abbrev pub invariant-loop-letter : goal.invariant-loop-letter
invariant-loop-letter l =
    parked_after l.so_far (pairs_mailed (drop l.letter-index l.letters)) ≡ parked_after l.fn.parked (pairs_mailed l.letters)
