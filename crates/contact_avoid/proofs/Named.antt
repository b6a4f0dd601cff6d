-- Each contact is known by one report, which is found by the contact's name.
use Rattle.std.proofs.Common.{◌≡◌, ℕ, Bool, true, false, ◌||◌, List, [], ◌∷◌, ◌++◌, length, map, refl, ap, sym, ◌∙◌, subst}
use Rattle.std.specs.Prelude.{bytes_eq, fold, if◌then◌else◌, nat_lt, Option, Some, None}
use Rattle.std.specs.List.{find, flat_map, list_any, AllByRecursion as Each}
use Rattle.std.proofs.lemmas.Slice.Eq.{bytes_eq-Decides}
use Rattle.moos_post.specs.declared.value.Pair.{Pair}
use Rattle.moos_post.proofs.Texts.{bytes_eq_comm}
use Rattle.contact_avoid.specs.declared.report.Report.{Report}
use Rattle.contact_avoid.specs.Contacts.{contacts_with, is_report_of, reported, with_report}

-- bytes that are told to be equal are
pub same_name : (a b : List ℕ) → bytes_eq a b ≡ true → a ≡ b
same_name a b e = (bytes_eq-Decides a b).0 e

own_name : (a : List ℕ) → bytes_eq a a ≡ true
own_name a = (bytes_eq-Decides a a).1 refl

twice : (a b : Bool) → (a || b) ≡ (a || (a || b))
twice true b = refl
twice false b = refl

swapped : (a b c : Bool) → (a || (b || c)) ≡ (b || (a || c))
swapped true true c = refl
swapped true false c = refl
swapped false true c = refl
swapped false false c = refl

left_false : (a b : Bool) → (a || b) ≡ false → a ≡ false
left_false true b e = absurd cc
left_false false b e = refl

right_false : (a b : Bool) → (a || b) ≡ false → b ≡ false
right_false true b e = absurd cc
right_false false b e = e

-- which names are known once a report was put among the others
any_with : (name : List ℕ) (report : Report) (reports : List Report) → list_any (is_report_of name) (with_report report reports) ≡ (bytes_eq report.name name || list_any (is_report_of name) reports)
any_with name report [] = refl
any_with name report (other ∷ more) = at (bytes_eq other.name report.name) refl (any_with name report more)
  where
    at : (same : Bool) → bytes_eq other.name report.name ≡ same → list_any (is_report_of name) (with_report report more) ≡ (bytes_eq report.name name || list_any (is_report_of name) more)
        → list_any (is_report_of name) (with_report report (other ∷ more)) ≡ (bytes_eq report.name name || (bytes_eq other.name name || list_any (is_report_of name) more))
    at true e further =
        rw e (twice (bytes_eq report.name name) (list_any (is_report_of name) more)
        ∙ ap (λ n. bytes_eq report.name name || (bytes_eq n name || list_any (is_report_of name) more)) (sym (same_name other.name report.name e)))
    at false e further =
        rw e (ap (λ b. bytes_eq other.name name || b) further ∙ swapped (bytes_eq other.name name) (bytes_eq report.name name) (list_any (is_report_of name) more))

-- no two reports are of one contact
abbrev pub AreNamedOnce : List Report → Type 0
AreNamedOnce [] = Unit {0}
AreNamedOnce (report ∷ more) = (list_any (is_report_of report.name) more ≡ false) × AreNamedOnce more

once_with : (report : Report) (reports : List Report) → AreNamedOnce reports → AreNamedOnce (with_report report reports)
once_with report [] once = (refl, tt)
once_with report (other ∷ more) once = at (bytes_eq other.name report.name) refl (once_with report more once.1)
  where
    at : (same : Bool) → bytes_eq other.name report.name ≡ same → AreNamedOnce (with_report report more) → AreNamedOnce (with_report report (other ∷ more))
    at true e further = rw e (subst (λ n. list_any (is_report_of n) more ≡ false) (same_name other.name report.name e) once.0, once.1)
    at false e further =
        rw e (any_with other.name report more ∙ ap (λ b. b || list_any (is_report_of other.name) more) (bytes_eq_comm report.name other.name ∙ e) ∙ once.0, further)

once_learnt : (known : List Report) (found : Option Report) → AreNamedOnce known → AreNamedOnce (contacts_with known found)
once_learnt known None once = once
once_learnt known (Some report) once = at (list_any (is_report_of report.name) known || nat_lt (length known) 32)
  where
    at : (may : Bool) → AreNamedOnce (if may then with_report report known else known)
    at true = once_with report known once
    at false = once

-- so it is after any pairs
pub once_after : (known : List Report) (heard : List Pair) → AreNamedOnce known → AreNamedOnce (fold (λ known pair. contacts_with known (reported pair)) known heard)
once_after known [] once = once
once_after known (pair ∷ more) once = once_after (contacts_with known (reported pair)) more (once_learnt known (reported pair) once)

-- who isn't known after a pair wasn't known before it
pub unknown_before : (name : List ℕ) (known : List Report) (found : Option Report) → list_any (is_report_of name) (contacts_with known found) ≡ false → list_any (is_report_of name) known ≡ false
unknown_before name known None none = none
unknown_before name known (Some report) none = at (list_any (is_report_of report.name) known || nat_lt (length known) 32) none
  where
    at : (may : Bool) → list_any (is_report_of name) (if may then with_report report known else known) ≡ false → list_any (is_report_of name) known ≡ false
    at true e = right_false (bytes_eq report.name name) (list_any (is_report_of name) known) (sym (any_with name report known) ∙ e)
    at false e = e

-- who isn't known isn't found
pub not_found : (name : List ℕ) (reports : List Report) → list_any (is_report_of name) reports ≡ false → find (is_report_of name) reports ≡ None
not_found name [] none = refl
not_found name (report ∷ more) none =
    rw (left_false (is_report_of name report) (list_any (is_report_of name) more) none) (not_found name more (right_false (is_report_of name report) (list_any (is_report_of name) more) none))

-- the reports that are found behind one more of another contact
found_behind : (first : Report) (all reports : List Report) → list_any (is_report_of first.name) reports ≡ false → Each (λ (report : Report). find (is_report_of report.name) all ≡ Some report) reports
    → Each (λ (report : Report). find (is_report_of report.name) (first ∷ all) ≡ Some report) reports
found_behind first all [] none found = tt
found_behind first all (report ∷ more) none found =
    let other : bytes_eq first.name report.name ≡ false = bytes_eq_comm first.name report.name ∙ left_false (is_report_of first.name report) (list_any (is_report_of first.name) more) none in
    (rw other found.0, found_behind first all more (right_false (is_report_of first.name report) (list_any (is_report_of first.name) more) none) found.1)

-- each contact is found by its name
pub each_found : (reports : List Report) → AreNamedOnce reports → Each (λ (report : Report). find (is_report_of report.name) reports ≡ Some report) reports
each_found [] once = tt
each_found (report ∷ more) once = (rw (own_name report.name) refl, found_behind report more more once.0 (each_found more once.1))

-- what is made of each element alike is alike of all
pub map_each : {A B : Type 0} (f g : A → B) (items : List A) → Each (λ item. f item ≡ g item) items → map f items ≡ map g items
map_each f g [] same = refl
map_each f g (item ∷ more) same = λ i. same.0 i ∷ map_each f g more same.1 i

pub flat_map_each : {A B : Type 0} (f g : A → List B) (items : List A) → Each (λ item. f item ≡ g item) items → flat_map f items ≡ flat_map g items
flat_map_each f g [] same = refl
flat_map_each f g (item ∷ more) same = λ i. same.0 i ++ flat_map_each f g more same.1 i
