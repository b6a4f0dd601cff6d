use Rattle.std.proofs.Common.{◌≡◌, take}
use Rattle.sim_clients.specs.Keeping.{number_after, pairs_in_mail}
use Rattle.sim_clients.proofs.numbers.number_after.Given as goal

-- So many letters are heard.
abbrev pub invariant-loop-letter : goal.invariant-loop-letter
invariant-loop-letter l = l.number ≡ number_after l.var l.fn.before (pairs_in_mail (take l.letter-index l.letters))
