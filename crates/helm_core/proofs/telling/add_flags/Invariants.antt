use Rattle.std.proofs.Common.{◌≡◌, ◌++◌, take}
use Rattle.helm_core.specs.Posts.{flags_raised}
use Rattle.helm_core.proofs.telling.add_flags.Given as goal

abbrev pub invariant-loop-showing : goal.invariant-loop-showing
invariant-loop-showing l = l.posts ≡ l.fn.posts ++ flags_raised (take l.showing-index l.showings)
