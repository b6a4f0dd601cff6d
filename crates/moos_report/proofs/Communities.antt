-- A script's clients and further ones behind them: each has a name of its own, and the script's lines are entries of its clients.
use Rattle.std.proofs.Common.{◌≡◌, ℕ, zero, suc, ◌<◌, ◌≤◌, false, true, cond, not, ◌&&◌, ◌||◌, Bool, nat_lt, nat_le, nat_eq, List, [], ◌∷◌, ◌++◌, length, bytes_eq, codes, refl, ap, sym, ◌∙◌, arith}
use Rattle.std.specs.List.{All, list_any}
use Rattle.std.proofs.lemmas.Bool.{and_parts, eq-eqb, ltb-true, or_parts}
use Rattle.std.proofs.lemmas.List.Elements.{All-cons, All-filter, All-head, All-nil, All-tail, All-weaker}
use Rattle.std.proofs.lemmas.List.Folds.{list_any-append, list_any_at}
use Rattle.std.proofs.lemmas.Slice.Eq.{bytes_eq-Decides}
use Rattle.moos_client.specs.Calls.{entries_of}
use Rattle.moos_post.specs.declared.entry.Entry.{Entry}
use Rattle.moos_post.specs.Entries.{IsEntry}
use Rattle.moos_post.specs.History.{History, name_of}
use Rattle.moos_report.specs.Community.{HaveOwnNames}
use Rattle.script_reader.specs.declared.script.Script.{Script}
use Rattle.script_reader.specs.Named.{has_name}
use Rattle.script_reader.specs.Validity.{are_clients, are_lines, IsValid, keeps_limits}

-- ---- names

-- no name is that of a later one
abbrev pub AreApart : List (List ℕ) → Type 0
AreApart [] = Unit {0}
AreApart (name ∷ names) = (has_name names name ≡ false) × AreApart names

first_is_own : (name : List ℕ) (names : List (List ℕ)) (other : ℕ) → has_name names name ≡ false → other < length names → name_of names other ≡ name → ⊥
first_is_own name names other none within same =
    let there : has_name names name ≡ true = list_any_at (λ one. bytes_eq one name) names other [] within ((bytes_eq-Decides (name_of names other) name).1 same) in
    let both : false ≡ true = sym none ∙ there in
    cc

pub own_names : (names : List (List ℕ)) → AreApart names → HaveOwnNames names
own_names [] apart one other first second same = absurd (omega (arith, first))
own_names (name ∷ names) apart zero zero first second same = refl
own_names (name ∷ names) apart zero (suc other) first second same = absurd (first_is_own name names other apart.0 (omega (arith, second)) (sym same))
own_names (name ∷ names) apart (suc one) zero first second same = absurd (first_is_own name names one apart.0 (omega (arith, first)) same)
own_names (name ∷ names) apart (suc one) (suc other) first second same = ap suc (own_names names apart.1 one other (omega (arith, first)) (omega (arith, second)) same)

not_true : (b : Bool) → not b ≡ true → b ≡ false
not_true true e = absurd cc
not_true false e = refl

-- the names of a script's clients
pub clients_apart : (names : List (List ℕ)) → are_clients names ≡ true → AreApart names
clients_apart [] good = tt
clients_apart (name ∷ names) good =
    let both = and_parts (not (bytes_eq name (codes "pHelmIvP")) && not (has_name names name)) (are_clients names) good in
    (not_true _ (and_parts (not (bytes_eq name (codes "pHelmIvP"))) (not (has_name names name)) both.0).1, clients_apart names both.1)

not_helms : (name : List ℕ) (same others : Bool) → bytes_eq (codes "pHelmIvP") name ≡ same → not (bytes_eq name (codes "pHelmIvP")) ≡ true → others ≡ false → ((same || false) || others) ≡ false
not_helms name false others is other none = none
not_helms name true others is other none =
    let equal : codes "pHelmIvP" ≡ name = (bytes_eq-Decides (codes "pHelmIvP") name).0 is in
    let back : bytes_eq name (codes "pHelmIvP") ≡ true = (bytes_eq-Decides name (codes "pHelmIvP")).1 (sym equal) in
    let no : false ≡ true = ap not (sym back) ∙ other in
    absurd cc

-- none of them is the helm's
pub none_is_helms : (names : List (List ℕ)) → are_clients names ≡ true → list_any (has_name (codes "pHelmIvP" ∷ [])) names ≡ false
none_is_helms [] good = refl
none_is_helms (name ∷ names) good =
    let both = and_parts (not (bytes_eq name (codes "pHelmIvP")) && not (has_name names name)) (are_clients names) good in
    let front = and_parts (not (bytes_eq name (codes "pHelmIvP"))) (not (has_name names name)) both.0 in
    not_helms name (bytes_eq (codes "pHelmIvP") name) (list_any (has_name (codes "pHelmIvP" ∷ [])) names) refl front.0 (none_is_helms names both.1)

-- names and further ones behind them, where none of the first is one of the further
pub apart_behind : (names further : List (List ℕ)) → AreApart names → AreApart further → list_any (has_name further) names ≡ false → AreApart (names ++ further)
apart_behind [] further apart more none = more
apart_behind (name ∷ names) further apart more none =
    let both = or_parts (has_name further name) (list_any (has_name further) names) none in
    (list_any-append (λ one. bytes_eq one name) names further ∙ (λ i. apart.0 i || both.0 i), apart_behind names further apart.1 more both.1)

-- ---- entries

-- an entry as its type lets it be, by one of so many clients
abbrev pub IsBy : ℕ → Entry → Type 0
IsBy clients entry = IsEntry entry × (entry.client < clients)

pub lines_by : (clients last stop : ℕ) (lines : List Entry) → are_lines clients last stop lines ≡ true → All IsEntry lines → All (IsBy clients) lines
lines_by clients last stop [] good entries = All-nil (IsBy clients)
lines_by clients last stop (line ∷ lines) good entries =
    let three = and_parts (nat_lt line.client clients && nat_le last line.stamp && keeps_limits line.call) (are_lines clients line.stamp stop lines) good in
    let two = and_parts (nat_lt line.client clients && nat_le last line.stamp) (keeps_limits line.call) three.0 in
    let one = and_parts (nat_lt line.client clients) (nat_le last line.stamp) two.0 in
    All-cons (IsBy clients) line lines (All-head IsEntry line lines entries, ltb-true line.client clients one.0) (lines_by clients line.stamp stop lines three.1 (All-tail IsEntry line lines entries))

-- the lines of each client of a script, among its clients and further ones
pub own_lines : (clients client : ℕ) (script : Script) → IsValid script → length script.names ≤ clients → All (IsBy clients) (entries_of client script.lines)
own_lines clients client script valid within =
    All-filter (λ entry. nat_eq entry.client client) (IsBy clients) script.lines
    (All-weaker (IsBy (length script.names)) (IsBy clients) (λ entry is. (is.0, omega (arith, is.1, within))) script.lines
    (lines_by (length script.names) 0 script.stop script.lines valid.lines valid.entries))

-- what holds of each client's entries holds of all
pub all_entries : (P : Entry → Type 0) (history : History) → ((client : ℕ) → All P (entries_of client history)) → All P history
all_entries P [] each = All-nil P
all_entries P (entry ∷ later) each = All-cons P entry later first (all_entries P later (λ client. rest client (nat_eq entry.client client) (each client)))
  where
    own : (same : Bool) → nat_eq entry.client entry.client ≡ same → All P (cond same (entry ∷ entries_of entry.client later) (entries_of entry.client later)) → P entry
    own true is all = All-head P entry (entries_of entry.client later) all
    own false is all = let both : true ≡ false = sym (eq-eqb entry.client entry.client refl) ∙ is in cc

    first : P entry
    first = own (nat_eq entry.client entry.client) refl (each entry.client)

    rest : (client : ℕ) (same : Bool) → All P (cond same (entry ∷ entries_of client later) (entries_of client later)) → All P (entries_of client later)
    rest client true all = All-tail P entry (entries_of client later) all
    rest client false all = all
