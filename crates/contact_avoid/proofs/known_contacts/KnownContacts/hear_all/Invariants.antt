use Rattle.std.proofs.Common.{◌≡◌, take}
use Rattle.contact_avoid.specs.Kept.{heard_all}
use Rattle.contact_avoid.specs.Standing.{pairs_said}
use Rattle.contact_avoid.proofs.known_contacts.KnownContacts.hear_all.Given as goal

-- So many letters are heard.
abbrev pub invariant-loop-letter : goal.invariant-loop-letter
invariant-loop-letter l = l.self ≡ heard_all l.initial.self (pairs_said (take l.letter-index l.letters))
