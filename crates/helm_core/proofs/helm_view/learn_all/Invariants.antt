use Rattle.std.proofs.Common.{◌≡◌, drop}
use Rattle.helm_cond.specs.Infos.{knowledge_of}
use Rattle.helm_core.specs.Kept.{known_after}
use Rattle.helm_core.specs.Ticks.{pairs_mailed}
use Rattle.helm_core.proofs.helm_view.learn_all.Given as goal

-- With what is left it comes to what all letters come to.
abbrev pub invariant-loop-letter : goal.invariant-loop-letter
invariant-loop-letter l =
    known_after (knowledge_of l.info) (pairs_mailed (drop l.letter-index l.letters)) ≡ known_after (knowledge_of l.fn.info) (pairs_mailed l.letters)
