-- Lines that rise: a stamp tells the line.
use Rattle.std.proofs.Common.{◌≡◌, ℕ, suc, ◌≤◌, ◌==◌, Bool, true, false, cond, nat_le, Option, Some, None, List, [], ◌∷◌, get_or, refl, ap, ◌∙◌, subst, arith, eq-eqb}
use Rattle.std.specs.Prelude.{All, map}
use Rattle.std.proofs.lemmas.Bool.{and_parts, leb-true, ne_eqb}
use Rattle.std.proofs.lemmas.List.Elements.{All-cons, All-head, All-nil, All-tail, All-weaker}
use Rattle.moos_post.specs.declared.entry.Entry.{Entry}
use Rattle.moos_client.specs.Calls.{entries_of}
use Rattle.moos_lawful.specs.Schedules.{never_falls}
use Rattle.mission_maker.specs.Stamps.{rise_within}

-- the first line of a stamp
abbrev pub line_with : ℕ → List Entry → Option Entry
line_with stamp [] = None
line_with stamp (line ∷ lines) = cond (line.stamp == stamp) (Some line) (line_with stamp lines)

from_on : (from to : ℕ) (lines : List Entry) → rise_within from to lines ≡ true → All (λ line. from ≤ line.stamp) lines
from_on from to [] rise = All-nil (λ line. from ≤ line.stamp)
from_on from to (line ∷ lines) rise =
    let parts = and_parts (nat_le from line.stamp) (rise_within (suc line.stamp) to lines) rise in
    let first = leb-true from line.stamp parts.0 in
    All-cons (λ (line : Entry). from ≤ line.stamp) line lines first
    (All-weaker (λ (other : Entry). suc line.stamp ≤ other.stamp) (λ other. from ≤ other.stamp) (λ other later. omega arith) lines (from_on (suc line.stamp) to lines parts.1))

-- each of rising lines is the one of its stamp
pub own_lines : (from to : ℕ) (lines : List Entry) → rise_within from to lines ≡ true → All (λ line. line_with line.stamp lines ≡ Some line) lines
own_lines from to [] rise = All-nil (λ line. line_with line.stamp [] ≡ Some line)
own_lines from to (line ∷ lines) rise =
    All-cons (λ other. line_with other.stamp (line ∷ lines) ≡ Some other) line lines
    (ap (λ b. cond b (Some line) (line_with line.stamp lines)) (eq-eqb line.stamp line.stamp refl))
    (λ k d within.
    let other : Entry = get_or lines k d in
    let above : suc line.stamp ≤ other.stamp = from_on (suc line.stamp) to lines parts.1 k d within in
    let ne : line.stamp ≡ other.stamp → ⊥ = λ same. omega arith in
    ap (λ b. cond b (Some line) (line_with other.stamp lines)) (ne_eqb line.stamp other.stamp ne) ∙ own_lines (suc line.stamp) to lines parts.1 k d within)
  where
    parts : (nat_le from line.stamp ≡ true) × (rise_within (suc line.stamp) to lines ≡ true)
    parts = and_parts (nat_le from line.stamp) (rise_within (suc line.stamp) to lines) rise

-- the first entry, where there is one
abbrev pub head : List Entry → Option Entry
head [] = None
head (entry ∷ later) = Some entry

-- a client's first entry is one of all
pub head_among : (P : Entry → Type 0) (client : ℕ) (entries : List Entry) (one : Entry) → head (entries_of client entries) ≡ Some one → All P entries → P one
head_among P client [] one is all = absurd cc
head_among P client (entry ∷ entries) one is all = at (entry.client == client) is (λ later. head_among P client entries one later (All-tail P entry entries all))
  where
    at : (b : Bool) → head (cond b (entry ∷ entries_of client entries) (entries_of client entries)) ≡ Some one → (head (entries_of client entries) ≡ Some one → P one) → P one
    at true is later = let same : entry ≡ one = cc in subst P same (All-head P entry entries all)
    at false is later = later is

-- an entry is its client's first where it is the first of all
pub own_head : (entry : Entry) (later : List Entry) → entries_of entry.client (entry ∷ later) ≡ entry ∷ entries_of entry.client later
own_head entry later = ap (λ b. cond b (entry ∷ entries_of entry.client later) (entries_of entry.client later)) (eq-eqb entry.client entry.client refl)

keys_from : (key : Entry → ℕ) (last : ℕ) (entries : List Entry) → never_falls last (map key entries) ≡ true → All (λ entry. last ≤ key entry) entries
keys_from key last [] order = All-nil (λ entry. last ≤ key entry)
keys_from key last (entry ∷ entries) order =
    let parts = and_parts (nat_le last (key entry)) (never_falls (key entry) (map key entries)) order in
    let first = leb-true last (key entry) parts.0 in
    All-cons (λ entry. last ≤ key entry) entry entries first
    (All-weaker (λ other. key entry ≤ key other) (λ other. last ≤ key other) (λ other later. omega arith) entries (keys_from key (key entry) entries parts.1))

-- no key of ordered entries is below the first one's
pub first_least : (key : Entry → ℕ) (last : ℕ) (entry : Entry) (entries : List Entry) → never_falls last (map key (entry ∷ entries)) ≡ true → All (λ other. key entry ≤ key other) (entry ∷ entries)
first_least key last entry entries order =
    let parts = and_parts (nat_le last (key entry)) (never_falls (key entry) (map key entries)) order in
    All-cons (λ other. key entry ≤ key other) entry entries (omega arith) (keys_from key (key entry) entries parts.1)
