use Rattle.std.proofs.Common.{◌≡◌, ◌∷◌, [], length}
use Rattle.moos_text.specs.Lines.{words_of}
use Rattle.ivp_cert.specs.Decisions.{spelled}
use Rattle.ivp_cert.proofs.claim.spelled_in.Given as goal

abbrev pub invariant-loop-next : goal.invariant-loop-next
invariant-loop-next l = spelled [] (words_of l.text) ≡ spelled l.places (l.word ∷ words_of l.left)

abbrev pub decreases-loop-next : goal.decreases-loop-next
decreases-loop-next l = length (words_of l.left)
