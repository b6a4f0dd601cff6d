use Rattle.std.proofs.Common.{◌≡◌, take}
use Rattle.std.specs.List.{flat_map}
use Rattle.contact_avoid.specs.Kept.{posts_from}
use Rattle.contact_avoid.proofs.known_contacts.batch_of.Given as goal

-- What so many contacts post.
abbrev pub invariant-loop-contact : goal.invariant-loop-contact
invariant-loop-contact l = l.batch ≡ flat_map (posts_from l.ranges l.own) (take l.contact-index l.contacts)
