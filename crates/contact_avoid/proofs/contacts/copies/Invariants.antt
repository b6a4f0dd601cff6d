use Rattle.std.proofs.Common.{◌≡◌, take}
use Rattle.contact_avoid.proofs.contacts.copies.Given as goal

-- What is copied so far equals the contacts before the index.
abbrev pub invariant-loop-contact : goal.invariant-loop-contact
invariant-loop-contact l = l.copied.items ≡ take l.contact-index l.contacts
