-- What the manager keeps between its turns, and what each step of a turn makes of it. This serves its calls alone: what it
-- posts is said without it, in Contacts.
use Rattle.std.specs.Prelude.{ℕ, ℤ, Bool, false, nat_lt, if◌then◌else◌, List, [], ◌∷◌, ◌++◌, length, fold, codes, bytes_eq, position, slice_index_or, slice_set, Option, Some, None}
use Rattle.moos_post.specs.declared.value.Pair.{Pair}
use Rattle.helm_geo.specs.declared.spot.Spot.{Spot}
use Rattle.contact_avoid.specs.declared.contact.Contact.{Contact}
use Rattle.contact_avoid.specs.declared.ranges.Ranges.{Ranges}
use Rattle.contact_avoid.specs.declared.report.Report.{Report}
use Rattle.contact_avoid.specs.Contacts.{contact_posts, inside_at, is_report_of, known_number, reported}

-- the own position's coordinates, if they are known, and the contacts
pub record KnownContactsState : Type 0 where
  pub x : Option ℤ
  pub y : Option ℤ
  pub contacts : List Contact

-- nothing is known
abbrev pub nothing_known : KnownContactsState
nothing_known = record { x = None; y = None; contacts = [] }

-- the contact has this name
abbrev pub is_named_as : List ℕ → Contact → Bool
is_named_as name contact = is_report_of name contact.report

-- a contact that was never inside
abbrev pub outside : Report → Contact
outside report = record { report = report; inside = false }

-- the contacts with this report at this place, if the contact stays inside or outside
abbrev pub renewed : Report → List Contact → ℕ → List Contact
renewed report known place = slice_set known place (record { report = report; inside = (slice_index_or known place (outside report)).inside })

-- the contacts with one more, while fewer than 32 are known
abbrev pub with_new : Report → List Contact → List Contact
with_new report known = if nat_lt (length known) 32 then known ++ outside report ∷ [] else known

-- the contacts with this report, if its contact is at this place
abbrev pub learnt_in_place : Report → List Contact → Option ℕ → List Contact
learnt_in_place report known None = with_new report known
learnt_in_place report known (Some place) = renewed report known place

-- the contacts once a report was learnt
abbrev pub learnt : Report → List Contact → List Contact
learnt report known = learnt_in_place report known (position (is_named_as report.name) known)

-- the contacts with what a report tells, if there is one
abbrev pub with_reported : Option Report → List Contact → List Contact
with_reported None known = known
with_reported (Some report) known = learnt report known

-- what is known once a pair was heard
abbrev pub heard : KnownContactsState → Pair → KnownContactsState
heard known pair =
    record {
      x = if bytes_eq (codes "NAV_X") pair.var then known_number (Some pair.value) else known.x;
      y = if bytes_eq (codes "NAV_Y") pair.var then known_number (Some pair.value) else known.y;
      contacts = with_reported (reported pair) known.contacts;
    }

-- what is known once these pairs were heard, one after another
abbrev pub heard_all : KnownContactsState → List Pair → KnownContactsState
heard_all known pairs = fold heard known pairs

-- whether a contact is inside at a turn, seen from here
abbrev pub inside_from : Ranges → Option Spot → Contact → Bool
inside_from ranges own contact = inside_at ranges contact.inside own (Some contact.report)

-- what is posted of a contact at a turn
abbrev pub posts_from : Ranges → Option Spot → Contact → List Pair
posts_from ranges own contact = contact_posts contact.inside (inside_from ranges own contact) contact.report

-- the contact after the turn
abbrev pub settled : Ranges → Option Spot → Contact → Contact
settled ranges own contact = record { report = contact.report; inside = inside_from ranges own contact }
