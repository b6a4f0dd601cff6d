-- The contacts that are kept, each with whether it is inside, learn what the reports do.
use Rattle.std.proofs.Common.{◌≡◌, ℕ, suc, ◌+◌, Bool, true, false, List, [], ◌∷◌, ◌++◌, length, map, refl, ap, sym, ◌∙◌, arith}
use Rattle.std.specs.Prelude.{if◌then◌else◌, nat_lt, Option, Some, None}
use Rattle.std.specs.List.{list_any, position_or_len}
use Rattle.std.proofs.lemmas.Bool.Decides.{nat_tests}
use Rattle.std.proofs.lemmas.List.{length-map, map-append}
use Rattle.contact_avoid.specs.declared.contact.Contact.{Contact}
use Rattle.contact_avoid.specs.declared.report.Report.{Report}
use Rattle.contact_avoid.specs.Contacts.{contacts_with, is_report_of, with_report}
use Rattle.contact_avoid.specs.Kept.{is_named_as, learnt, outside, renewed, with_new, with_reported}
use Rattle.contact_avoid.proofs.Named.{same_name}

-- a contact by its report, where this tells by its name whether it is inside
abbrev pub kept_as : (List ℕ → Bool) → Report → Contact
kept_as inside report = record { report = report; inside = inside report.name }

-- one place further on
less_further : (place count : ℕ) → nat_lt (1 + place) (suc count) ≡ nat_lt place count
less_further place count = at (nat_lt place count) refl
  where
    at : (less : Bool) → nat_lt place count ≡ less → nat_lt (1 + place) (suc count) ≡ less
    at true e = grind (arith, nat_tests)
    at false e = grind (arith, nat_tests)

less_first : (count : ℕ) → nat_lt 0 (suc count) ≡ true
less_first count = grind (arith, nat_tests)

renewed_further : (report : Report) (other : Contact) (known : List Contact) (place : ℕ) → renewed report (other ∷ known) (1 + place) ≡ other ∷ renewed report known place
renewed_further report other known place = let next : 1 + place ≡ suc place = omega arith in rw next refl

-- a contact stands somewhere where its name is known
stands : (inside : List ℕ → Bool) (name : List ℕ) (reports : List Report)
    → nat_lt (position_or_len (is_named_as name) (map (kept_as inside) reports)) (length (map (kept_as inside) reports)) ≡ list_any (is_report_of name) reports
stands inside name [] = refl
stands inside name (report ∷ more) = at (is_report_of name report) refl (stands inside name more)
  where
    at : (same : Bool) → is_report_of name report ≡ same
        → nat_lt (position_or_len (is_named_as name) (map (kept_as inside) more)) (length (map (kept_as inside) more)) ≡ list_any (is_report_of name) more
        → nat_lt (position_or_len (is_named_as name) (map (kept_as inside) (report ∷ more))) (length (map (kept_as inside) (report ∷ more))) ≡ list_any (is_report_of name) (report ∷ more)
    at true e further = rw e (less_first (length (map (kept_as inside) more)))
    at false e further = rw e (less_further (position_or_len (is_named_as name) (map (kept_as inside) more)) (length (map (kept_as inside) more)) ∙ further)

-- there its report is put
renewed_there : (inside : List ℕ → Bool) (report : Report) (reports : List Report) → list_any (is_report_of report.name) reports ≡ true
    → renewed report (map (kept_as inside) reports) (position_or_len (is_named_as report.name) (map (kept_as inside) reports)) ≡ map (kept_as inside) (with_report report reports)
renewed_there inside report [] known = absurd cc
renewed_there inside report (other ∷ more) known = at (is_report_of report.name other) refl (λ behind. renewed_there inside report more behind) known
  where
    at : (same : Bool) → is_report_of report.name other ≡ same
        → (list_any (is_report_of report.name) more ≡ true → renewed report (map (kept_as inside) more) (position_or_len (is_named_as report.name) (map (kept_as inside) more)) ≡ map (kept_as inside) (with_report report more))
        → list_any (is_report_of report.name) (other ∷ more) ≡ true
        → renewed report (map (kept_as inside) (other ∷ more)) (position_or_len (is_named_as report.name) (map (kept_as inside) (other ∷ more))) ≡ map (kept_as inside) (with_report report (other ∷ more))
    at true e further known = rw e (ap (λ n. record { report = report; inside = inside n } ∷ map (kept_as inside) more) (same_name other.name report.name e))
    at false e further known = let behind : list_any (is_report_of report.name) more ≡ true = rw e at known in
        rw e
        (renewed_further report (kept_as inside other) (map (kept_as inside) more) (position_or_len (is_named_as report.name) (map (kept_as inside) more))
        ∙ ap (λ rest. kept_as inside other ∷ rest) (further behind))

-- a report of a new contact stands behind the others
stands_behind : (report : Report) (reports : List Report) → list_any (is_report_of report.name) reports ≡ false → with_report report reports ≡ reports ++ report ∷ []
stands_behind report [] none = refl
stands_behind report (other ∷ more) none = at (is_report_of report.name other) refl (stands_behind report more) none
  where
    at : (same : Bool) → is_report_of report.name other ≡ same → (list_any (is_report_of report.name) more ≡ false → with_report report more ≡ more ++ report ∷ [])
        → list_any (is_report_of report.name) (other ∷ more) ≡ false → with_report report (other ∷ more) ≡ (other ∷ more) ++ report ∷ []
    at true e further none = let never : true ≡ false = rw e at none in absurd cc
    at false e further none = let behind : list_any (is_report_of report.name) more ≡ false = rw e at none in rw e (ap (λ rest. other ∷ rest) (further behind))

-- a new contact is added alike, where it is outside
added : (inside : List ℕ → Bool) (report : Report) (reports : List Report) → inside report.name ≡ false → with_report report reports ≡ reports ++ report ∷ []
    → with_new report (map (kept_as inside) reports) ≡ map (kept_as inside) (if nat_lt (length reports) 32 then with_report report reports else reports)
added inside report reports out behind = rw (length-map reports (kept_as inside)) (at (nat_lt (length reports) 32))
  where
    at : (few : Bool) → (if few then map (kept_as inside) reports ++ outside report ∷ [] else map (kept_as inside) reports) ≡ map (kept_as inside) (if few then with_report report reports else reports)
    at true =
        ap (λ b. map (kept_as inside) reports ++ record { report = report; inside = b } ∷ []) (sym out)
        ∙ sym (map-append (kept_as inside) reports (report ∷ [])) ∙ ap (λ all. map (kept_as inside) all) (sym behind)
    at false = refl

-- a report is learnt alike, where who isn't known is outside
report_learnt : (inside : List ℕ → Bool) (report : Report) (reports : List Report) → (list_any (is_report_of report.name) reports ≡ false → inside report.name ≡ false)
    → learnt report (map (kept_as inside) reports) ≡ map (kept_as inside) (contacts_with reports (Some report))
report_learnt inside report reports apart = by (list_any (is_report_of report.name) reports) refl
  where
    by : (known : Bool) → list_any (is_report_of report.name) reports ≡ known → learnt report (map (kept_as inside) reports) ≡ map (kept_as inside) (contacts_with reports (Some report))
    by true e = rw (stands inside report.name reports ∙ e) (rw e (renewed_there inside report reports e))
    by false e = rw (stands inside report.name reports ∙ e) (rw e (added inside report reports (apart e) (stands_behind report reports e)))

-- so is what a pair reports, where there is anything
pub pair_learnt : (inside : List ℕ → Bool) (found : Option Report) (reports : List Report) → ((name : List ℕ) → list_any (is_report_of name) reports ≡ false → inside name ≡ false)
    → with_reported found (map (kept_as inside) reports) ≡ map (kept_as inside) (contacts_with reports found)
pair_learnt inside None reports apart = refl
pair_learnt inside (Some report) reports apart = report_learnt inside report reports (apart report.name)
