use Rattle.std.proofs.Common.{◌≡◌, [], length}
use Rattle.moos_text.specs.Lines.{words_of}
use Rattle.ivp_cert.specs.Decisions.{line_from}
use Rattle.ivp_cert.proofs.line.line_of.Given as goal

abbrev pub invariant-loop-word : goal.invariant-loop-word
invariant-loop-word l = line_from [] (words_of l.text) ≡ line_from l.numbers (words_of l.left)

abbrev pub decreases-loop-word : goal.decreases-loop-word
decreases-loop-word l = length (words_of l.left)
