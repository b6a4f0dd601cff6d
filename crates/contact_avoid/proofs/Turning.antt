-- One turn more: what is posted and what is kept.
use Rattle.std.proofs.Common.{◌≡◌, ℕ, Bool, false, List, [], ◌∷◌, ◌++◌, map, refl, ap, sym, ◌∙◌, subst, append_assoc}
use Rattle.std.specs.Prelude.{fold, find, Some}
use Rattle.std.specs.List.{flat_map, list_any, AllByRecursion as Each}
use Rattle.std.proofs.lemmas.Grind.{flat_map-append}
use Rattle.std.proofs.lemmas.List.{append-nil}
use Rattle.std.proofs.lemmas.List.Sums.{fold-append}
use Rattle.moos_post.specs.declared.value.Pair.{Pair}
use Rattle.moos_db.specs.declared.mail.Letter.{Letter}
use Rattle.contact_avoid.specs.declared.manager.Manager.{Manager}
use Rattle.contact_avoid.specs.declared.ranges.Ranges.{Ranges}
use Rattle.contact_avoid.specs.declared.report.Report.{Report}
use Rattle.contact_avoid.specs.Contacts.{batch_at, batches_from, batches_of, contact_posts, contacts_after, said_in_all, inside_at, is_inside, is_report_of, own_after, own_spot, Turns, Picture, picture_after, pictures_from, pictures_of}
use Rattle.contact_avoid.specs.Kept.{heard_all, posts_from, settled, KnownContactsState}
use Rattle.contact_avoid.specs.Standing.{contact_after, AreKnownContacts, HasHadTurn, pairs_said, Knows}
use Rattle.contact_avoid.proofs.Hearing.{all_heard, AreOutside}
use Rattle.contact_avoid.proofs.Named.{AreNamedOnce, each_found, flat_map_each, map_each, not_found, once_after}

-- who isn't known after turns wasn't inside at any
outside_from : (ranges : Ranges) (name : List ℕ) (before : List Pair) (turns : Turns) (inside : Bool) → (list_any (is_report_of name) (contacts_after before) ≡ false → inside ≡ false)
    → list_any (is_report_of name) (contacts_after (before ++ said_in_all turns)) ≡ false
    → fold (λ before (picture : Picture). inside_at ranges before picture.own (find (is_report_of name) picture.contacts)) inside (pictures_from before turns) ≡ false
outside_from ranges name before [] inside apart none = apart (ap (λ all. list_any (is_report_of name) (contacts_after all)) (sym (append-nil before)) ∙ none)
outside_from ranges name before (said ∷ later) inside apart none =
    outside_from ranges name (before ++ said) later
    (inside_at ranges inside (own_after (before ++ said)) (find (is_report_of name) (contacts_after (before ++ said))))
    (λ unknown. ap (λ found. inside_at ranges inside (own_after (before ++ said)) found) (not_found name (contacts_after (before ++ said)) unknown))
    (ap (λ all. list_any (is_report_of name) (contacts_after all)) (append_assoc before said (said_in_all later)) ∙ none)

all_outside : (ranges : Ranges) (turns : Turns) → AreOutside ranges (pictures_of turns) (said_in_all turns)
all_outside ranges turns name none = outside_from ranges name [] turns false (λ _. refl) none

-- one turn more is heard, and has its picture
heard_more : (turns : Turns) (said : List Pair) → said_in_all (turns ++ said ∷ []) ≡ said_in_all turns ++ said
heard_more turns said = flat_map-append (λ said. said) turns (said ∷ []) ∙ ap (λ all. said_in_all turns ++ all) (append-nil said)

pictures_more : (before : List Pair) (turns : Turns) (said : List Pair) → pictures_from before (turns ++ said ∷ []) ≡ pictures_from before turns ++ picture_after (before ++ said_in_all turns ++ said) ∷ []
pictures_more before [] said = ap (λ all. picture_after (all ++ said) ∷ []) (sym (append-nil before))
pictures_more before (first ∷ later) said =
    ap (λ pictures. picture_after (before ++ first) ∷ pictures)
    (pictures_more (before ++ first) later said ∙ ap (λ all. pictures_from (before ++ first) later ++ picture_after (all ++ said) ∷ []) (append_assoc before first (said_in_all later)))

-- and its batch
batches_more : (ranges : Ranges) (before pictures : List Picture) (picture : Picture) → batches_from ranges before (pictures ++ picture ∷ []) ≡ batches_from ranges before pictures ++ batch_at ranges (before ++ pictures) picture ∷ []
batches_more ranges before [] picture = ap (λ all. batch_at ranges all picture ∷ []) (sym (append-nil before))
batches_more ranges before (first ∷ later) picture =
    ap (λ batches. batch_at ranges before first ∷ batches)
    (batches_more ranges (before ++ first ∷ []) later picture
    ∙ ap (λ all. batches_from ranges (before ++ first ∷ []) later ++ batch_at ranges all picture ∷ []) (append_assoc before (first ∷ []) later))

-- whether a contact is inside where there is one turn more
inside_more : (ranges : Ranges) (name : List ℕ) (pictures : List Picture) (picture : Picture)
    → is_inside ranges name (pictures ++ picture ∷ []) ≡ inside_at ranges (is_inside ranges name pictures) picture.own (find (is_report_of name) picture.contacts)
inside_more ranges name pictures picture = fold-append (λ before (picture : Picture). inside_at ranges before picture.own (find (is_report_of name) picture.contacts)) false pictures (picture ∷ [])

-- a known contact, which is found by its name
inside_known : (ranges : Ranges) (pictures : List Picture) (picture : Picture) (report : Report) → find (is_report_of report.name) picture.contacts ≡ Some report
    → inside_at ranges (is_inside ranges report.name pictures) picture.own (Some report) ≡ is_inside ranges report.name (pictures ++ picture ∷ [])
inside_known ranges pictures picture report found =
    ap (λ found. inside_at ranges (is_inside ranges report.name pictures) picture.own found) (sym found) ∙ sym (inside_more ranges report.name pictures picture)

map_twice : {A B C : Type 0} (f : B → C) (g : A → B) (items : List A) → map f (map g items) ≡ map (λ item. f (g item)) items
map_twice f g [] = refl
map_twice f g (item ∷ more) = ap (λ rest. f (g item) ∷ rest) (map_twice f g more)

flat_map_map : {A B C : Type 0} (f : B → List C) (g : A → B) (items : List A) → flat_map f (map g items) ≡ flat_map (λ item. f (g item)) items
flat_map_map f g [] = refl
flat_map_map f g (item ∷ more) = ap (λ rest. f (g item) ++ rest) (flat_map_map f g more)

each_weaker : {A : Type 0} {P Q : A → Type 0} → ((item : A) → P item → Q item) → (items : List A) → Each P items → Each Q items
each_weaker weaker [] all = tt
each_weaker weaker (item ∷ more) all = (weaker item all.0, each_weaker weaker more all.1)

-- what is posted, and what is kept, is as if each contact were found by its name
posted_same : (ranges : Ranges) (pictures : List Picture) (picture : Picture) → AreNamedOnce picture.contacts
    → flat_map (posts_from ranges picture.own) (map (contact_after ranges pictures) picture.contacts) ≡ batch_at ranges pictures picture
posted_same ranges pictures picture once =
    flat_map_map (posts_from ranges picture.own) (contact_after ranges pictures) picture.contacts
    ∙ flat_map_each (λ (report : Report). posts_from ranges picture.own (contact_after ranges pictures report))
    (λ (report : Report). contact_posts (is_inside ranges report.name pictures) (is_inside ranges report.name (pictures ++ picture ∷ [])) report) picture.contacts
    (each_weaker (λ report found. ap (λ now. contact_posts (is_inside ranges report.name pictures) now report) (inside_known ranges pictures picture report found)) picture.contacts (each_found picture.contacts once))

settled_same : (ranges : Ranges) (pictures : List Picture) (picture : Picture) → AreNamedOnce picture.contacts
    → map (settled ranges picture.own) (map (contact_after ranges pictures) picture.contacts) ≡ map (contact_after ranges (pictures ++ picture ∷ [])) picture.contacts
settled_same ranges pictures picture once =
    map_twice (settled ranges picture.own) (contact_after ranges pictures) picture.contacts
    ∙ map_each (λ (report : Report). settled ranges picture.own (contact_after ranges pictures report)) (contact_after ranges (pictures ++ picture ∷ [])) picture.contacts
    (each_weaker (λ report found. ap (λ now. record { report = report; inside = now }) (inside_known ranges pictures picture report found)) picture.contacts (each_found picture.contacts once))

-- what the manager sees once it has heard a mail
abbrev seen : List Letter → Turns → Picture
seen mail turns = picture_after (said_in_all turns ++ pairs_said mail)

seen_once : (mail : List Letter) (turns : Turns) → AreNamedOnce (contacts_after (said_in_all turns ++ pairs_said mail))
seen_once mail turns = once_after [] (said_in_all turns ++ pairs_said mail) tt

-- The batch and what is kept after a turn, by what is kept once the mail was heard.
pub record IsMade (mail : List Letter) (batch : List Pair) (old new : Manager) (fresh : KnownContactsState) : Type 0 where
  pub fresh_is : fresh ≡ heard_all old.known_contacts (pairs_said mail)
  pub batch_is : batch ≡ flat_map (posts_from old.ranges (own_spot fresh.x fresh.y)) fresh.contacts
  pub ranges : new.ranges ≡ old.ranges
  pub x : new.known_contacts.x ≡ fresh.x
  pub y : new.known_contacts.y ≡ fresh.y
  pub contacts : new.known_contacts.contacts ≡ map (settled old.ranges (own_spot fresh.x fresh.y)) fresh.contacts

-- what is kept once the mail was heard is as it should be
fresh_kept : (mail : List Letter) (batch : List Pair) (old new : Manager) (fresh : KnownContactsState) → IsMade mail batch old new fresh → (ranges : Ranges) (turns : Turns) → Knows ranges turns old
    → AreKnownContacts ranges (pictures_of turns) (said_in_all turns ++ pairs_said mail) fresh
fresh_kept mail batch old new fresh made ranges turns is =
    subst (λ kept. AreKnownContacts ranges (pictures_of turns) (said_in_all turns ++ pairs_said mail) kept) (sym made.fresh_is)
    (all_heard ranges (pictures_of turns) (said_in_all turns) (pairs_said mail) old.known_contacts (all_outside ranges turns) is.kept)

posted : (mail : List Letter) (batch : List Pair) (old new : Manager) (fresh : KnownContactsState) → IsMade mail batch old new fresh → (ranges : Ranges) (turns : Turns) → Knows ranges turns old
    → batches_of ranges (turns ++ pairs_said mail ∷ []) ≡ batches_of ranges turns ++ batch ∷ []
posted mail batch old new fresh made ranges turns is =
    let k = fresh_kept mail batch old new fresh made ranges turns is in
    let same : batch ≡ batch_at ranges (pictures_of turns) (seen mail turns)
    = made.batch_is ∙ (λ i. flat_map (posts_from (is.set i) (own_spot (k.x i) (k.y i))) (k.contacts i)) ∙ posted_same ranges (pictures_of turns) (seen mail turns) (seen_once mail turns) in
    ap (λ pictures. batches_from ranges [] pictures) (pictures_more [] turns (pairs_said mail))
    ∙ batches_more ranges [] (pictures_of turns) (seen mail turns)
    ∙ ap (λ last. batches_of ranges turns ++ last ∷ []) (sym same)

known_on : (mail : List Letter) (batch : List Pair) (old new : Manager) (fresh : KnownContactsState) → IsMade mail batch old new fresh → (ranges : Ranges) (turns : Turns) → Knows ranges turns old
    → Knows ranges (turns ++ pairs_said mail ∷ []) new
known_on mail batch old new fresh made ranges turns is =
    let k = fresh_kept mail batch old new fresh made ranges turns is in
    let contacts : new.known_contacts.contacts ≡ map (contact_after ranges (pictures_of turns ++ seen mail turns ∷ [])) (contacts_after (said_in_all turns ++ pairs_said mail))
    = made.contacts ∙ (λ i. map (settled (is.set i) (own_spot (k.x i) (k.y i))) (k.contacts i)) ∙ settled_same ranges (pictures_of turns) (seen mail turns) (seen_once mail turns) in
    let behind : AreKnownContacts ranges (pictures_of turns ++ seen mail turns ∷ []) (said_in_all turns ++ pairs_said mail) new.known_contacts
    = record { x = made.x ∙ k.x; y = made.y ∙ k.y; contacts = contacts } in
    record {
      set = made.ranges ∙ is.set;
      kept = subst (λ heard. AreKnownContacts ranges (pictures_of (turns ++ pairs_said mail ∷ [])) heard new.known_contacts) (sym (heard_more turns (pairs_said mail)))
          (subst (λ pictures. AreKnownContacts ranges pictures (said_in_all turns ++ pairs_said mail) new.known_contacts) (sym (pictures_more [] turns (pairs_said mail))) behind);
    }

-- A turn that was made so is one turn more.
pub turned : (mail : List Letter) (batch : List Pair) (old new : Manager) (fresh : KnownContactsState) → IsMade mail batch old new fresh → HasHadTurn mail batch old new
turned mail batch old new fresh made = record { known = known_on mail batch old new fresh made; posted = posted mail batch old new fresh made }
