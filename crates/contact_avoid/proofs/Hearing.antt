-- What is kept hears pairs as the definitions do.
use Rattle.std.proofs.Common.{◌≡◌, ℕ, Bool, true, false, List, [], ◌∷◌, ◌++◌, map, refl, ap, sym, ◌∙◌, subst, append_assoc}
use Rattle.std.specs.Prelude.{bytes_eq, codes, ℤ, if◌then◌else◌, Option, Some, None}
use Rattle.std.specs.List.{list_any}
use Rattle.std.proofs.lemmas.List.{append-nil}
use Rattle.std.proofs.lemmas.List.Sums.{fold-append}
use Rattle.moos_post.specs.declared.value.Pair.{Pair}
use Rattle.helm_cond.specs.Learnt.{Knowledge, known_with, latest_of}
use Rattle.contact_avoid.specs.declared.ranges.Ranges.{Ranges}
use Rattle.contact_avoid.specs.declared.report.Report.{Report}
use Rattle.contact_avoid.specs.Contacts.{contacts_after, contacts_with, is_inside, is_report_of, known_number, reported, Picture}
use Rattle.contact_avoid.specs.Kept.{heard, heard_all, KnownContactsState}
use Rattle.contact_avoid.specs.Standing.{contact_after, AreKnownContacts}
use Rattle.contact_avoid.proofs.Learning.{pair_learnt}
use Rattle.contact_avoid.proofs.Named.{unknown_before}

-- the latest value as a number, where one pair more was heard
latest_number : (before : List Pair) (pair : Pair) (var : List ℕ) (kept : Option ℤ) → kept ≡ known_number (latest_of before var)
    → (if bytes_eq var pair.var then known_number (Some pair.value) else kept) ≡ known_number (latest_of (before ++ pair ∷ []) var)
latest_number before pair var kept same = at (bytes_eq var pair.var) ∙ ap (λ (known : Knowledge). known_number (known var)) (sym (fold-append (λ (known : Knowledge) (pair : Pair). known_with known pair.var pair.value) (λ var. None) before (pair ∷ [])))
  where
    at : (is : Bool) → (if is then known_number (Some pair.value) else kept) ≡ known_number (if is then Some pair.value else latest_of before var)
    at true = refl
    at false = same

-- the contacts where one pair more was heard
pub contacts_more : (before : List Pair) (pair : Pair) → contacts_after (before ++ pair ∷ []) ≡ contacts_with (contacts_after before) (reported pair)
contacts_more before pair = fold-append (λ (known : List Report) (pair : Pair). contacts_with known (reported pair)) [] before (pair ∷ [])

-- who isn't known is outside
abbrev pub AreOutside : Ranges → List Picture → List Pair → Type 0
AreOutside ranges pictures before = (name : List ℕ) → list_any (is_report_of name) (contacts_after before) ≡ false → is_inside ranges name pictures ≡ false

outside_more : (ranges : Ranges) (pictures : List Picture) (before : List Pair) (pair : Pair) → AreOutside ranges pictures before → AreOutside ranges pictures (before ++ pair ∷ [])
outside_more ranges pictures before pair apart name none =
    apart name (unknown_before name (contacts_after before) (reported pair) (ap (λ reports. list_any (is_report_of name) reports) (sym (contacts_more before pair)) ∙ none))

one_heard : (ranges : Ranges) (pictures : List Picture) (before : List Pair) (pair : Pair) (kept : KnownContactsState) → AreOutside ranges pictures before
    → AreKnownContacts ranges pictures before kept → AreKnownContacts ranges pictures (before ++ pair ∷ []) (heard kept pair)
one_heard ranges pictures before pair kept apart is = record {
  x = latest_number before pair (codes "NAV_X") kept.x is.x;
  y = latest_number before pair (codes "NAV_Y") kept.y is.y;
  contacts = rw is.contacts (pair_learnt (λ name. is_inside ranges name pictures) (reported pair) (contacts_after before) apart)
      ∙ ap (λ reports. map (contact_after ranges pictures) reports) (sym (contacts_more before pair));
}

-- all pairs of a mail, one after another
pub all_heard : (ranges : Ranges) (pictures : List Picture) (before pairs : List Pair) (kept : KnownContactsState) → AreOutside ranges pictures before
    → AreKnownContacts ranges pictures before kept → AreKnownContacts ranges pictures (before ++ pairs) (heard_all kept pairs)
all_heard ranges pictures before [] kept apart is = subst (λ all. AreKnownContacts ranges pictures all kept) (sym (append-nil before)) is
all_heard ranges pictures before (pair ∷ more) kept apart is =
    subst (λ all. AreKnownContacts ranges pictures all (heard_all (heard kept pair) more)) (append_assoc before (pair ∷ []) more)
    (all_heard ranges pictures (before ++ pair ∷ []) more (heard kept pair) (outside_more ranges pictures before pair apart) (one_heard ranges pictures before pair kept apart is))
