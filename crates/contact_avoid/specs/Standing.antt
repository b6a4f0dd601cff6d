-- What a manager keeps of the turns that it has had, and what one more turn does to it.
use Rattle.std.specs.Prelude.{◌≡◌, List, [], ◌∷◌, ◌++◌, map, codes}
use Rattle.moos_post.specs.declared.value.Pair.{Pair}
use Rattle.moos_db.specs.declared.mail.Letter.{Letter}
use Rattle.moos_db.specs.Database.{pair_posted}
use Rattle.helm_cond.specs.Learnt.{latest_of}
use Rattle.contact_avoid.specs.declared.contact.Contact.{Contact}
use Rattle.contact_avoid.specs.declared.manager.Manager.{Manager}
use Rattle.contact_avoid.specs.declared.ranges.Ranges.{Ranges}
use Rattle.contact_avoid.specs.declared.report.Report.{Report}
use Rattle.contact_avoid.specs.Contacts.{batches_of, contacts_after, is_inside, known_number, Picture, pictures_of, said_in_all, Turns}
use Rattle.contact_avoid.specs.Kept.{KnownContactsState}

-- what the letters of a mail say
abbrev pub pairs_said : List Letter → List Pair
pairs_said mail = map (λ letter. pair_posted letter.post) mail

-- a contact as it is kept after turns of these pictures
abbrev pub contact_after : Ranges → List Picture → Report → Contact
contact_after ranges pictures report = record { report = report; inside = is_inside ranges report.name pictures }

-- what is kept is what these pairs come to, and which contacts are inside is what turns of these pictures come to
pub record AreKnownContacts (ranges : Ranges) (pictures : List Picture) (heard : List Pair) (kept : KnownContactsState) : Type 0 where
  pub x : kept.x ≡ known_number (latest_of heard (codes "NAV_X"))
  pub y : kept.y ≡ known_number (latest_of heard (codes "NAV_Y"))
  pub contacts : kept.contacts ≡ map (contact_after ranges pictures) (contacts_after heard)

-- The manager has these ranges, and it knows these turns: it keeps the own position, the contacts, and which of them are inside.
pub record Knows (ranges : Ranges) (turns : Turns) (manager : Manager) : Type 0 where
  pub set : manager.ranges ≡ ranges
  pub kept : AreKnownContacts ranges (pictures_of turns) (said_in_all turns) manager.known_contacts

-- The manager has had one more turn: whichever turns it knew, it knows them with this one behind, and the batch is what that turn posts.
pub record HasHadTurn (mail : List Letter) (batch : List Pair) (old new : Manager) : Type 0 where
  pub known : (ranges : Ranges) (turns : Turns) → Knows ranges turns old → Knows ranges (turns ++ pairs_said mail ∷ []) new
  pub posted : (ranges : Ranges) (turns : Turns) → Knows ranges turns old →
      batches_of ranges (turns ++ pairs_said mail ∷ []) ≡ batches_of ranges turns ++ batch ∷ []
