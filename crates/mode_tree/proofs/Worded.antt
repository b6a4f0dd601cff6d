-- The mode's text is a text as a value may be: each part of it has the form of a name, and there are at most 16.
use Rattle.std.proofs.Common.{◌≡◌, ℕ, zero, suc, ◌*◌, ◌≤◌, true, false, ◌&&◌, nat_le, get_or, List, [], ◌∷◌, ◌++◌, length, length-append, map, Option, Some, None, arith}
use Rattle.std.specs.Prelude.{IfSome, IsTrue, is_some, unwrap_or}
use Rattle.std.specs.List.{All, join_with_byte, list_all, position_or_len, AllByRecursion as Each}
use Rattle.std.proofs.lemmas.Bool.{and_parts, leb-true}
use Rattle.std.proofs.lemmas.Bool.Decides.{nat_tests}
use Rattle.std.proofs.lemmas.List.{length-map}
use Rattle.std.proofs.lemmas.List.Elements.{All-append, All-cons, All-nil, All-weaker}
use Rattle.std.proofs.lemmas.List.Sums.{AllPass-from_list_all, position_or_len_is}
use Rattle.moos_post.specs.Words.{begins_name, is_control, is_name, is_name_byte, is_text}
use Rattle.helm_cond.specs.Learnt.{Knowledge}
use Rattle.bhv_file.specs.declared.decl.Decl.{Decl}
use Rattle.bhv_file.specs.Validity.{AreDecls}
use Rattle.mode_tree.specs.Modes.{declared_under, first_of, is_met, mode_of, mode_text, ModePart, Named, name_of_decl, Other, other_of_decl, part_name, path_below, path_from}

-- the byte stands where the bytes of names and `:` do
abbrev Within : ℕ → Type 0
Within byte = (45 ≤ byte) × (byte ≤ 122)

name_within : (byte : ℕ) → is_name_byte byte ≡ true → Within byte
name_within byte is = (grind (arith, nat_tests), grind (arith, nat_tests))

within_text : (byte : ℕ) → Within byte → is_control byte ≡ false
within_text byte within = grind (arith, nat_tests)

name_bytes : (bytes : List ℕ) → list_all is_name_byte bytes ≡ true → All Within bytes
name_bytes bytes is = All-weaker (λ byte. is_name_byte byte ≡ true) Within name_within bytes (AllPass-from_list_all is_name_byte bytes is)

stays_text : (bytes : List ℕ) → length bytes ≤ 4096 → All Within bytes → is_text bytes ≡ true
stays_text bytes short all =
    let past : position_or_len is_control bytes ≡ length bytes
    = position_or_len_is is_control bytes (length bytes) 0 (omega arith) (λ k within. within_text (get_or bytes k 0) (all k 0 within)) (λ within. absurd (omega (arith, within))) in
    grind (arith, nat_tests)

-- a part of a mode's text: at most 64 such bytes
record IsPart (bytes : List ℕ) : Type 0 where
  short : length bytes ≤ 64
  stays : All Within bytes

no_part : IsPart []
no_part = record { short = omega arith; stays = All-nil Within }

name_part : (name : List ℕ) → IsTrue (is_name name) → IsPart name
name_part [] is = absurd cc
name_part (first ∷ rest) is =
    let both = and_parts (begins_name first && list_all is_name_byte (first ∷ rest)) (nat_le (length (first ∷ rest)) 64) is in
    record { short = leb-true (length (first ∷ rest)) 64 both.1; stays = name_bytes (first ∷ rest) (and_parts (begins_name first) (list_all is_name_byte (first ∷ rest)) both.0).1 }

joined_short : (parts : List (List ℕ)) → Each IsPart parts → length (join_with_byte 58 parts) ≤ 65 * length parts
joined_short [] all = omega arith
joined_short (one ∷ []) all = omega (arith, all.0.short)
joined_short (one ∷ next ∷ rest) all =
    omega (arith, all.0.short, joined_short (next ∷ rest) all.1, length-append one (58 ∷ join_with_byte 58 (next ∷ rest)))

joined_stays : (parts : List (List ℕ)) → Each IsPart parts → All Within (join_with_byte 58 parts)
joined_stays [] all = All-nil Within
joined_stays (one ∷ []) all = all.0.stays
joined_stays (one ∷ next ∷ rest) all =
    let joined = join_with_byte 58 (next ∷ rest) in
    All-append Within one (58 ∷ joined) all.0.stays (All-cons Within 58 joined (omega arith, omega arith) (joined_stays (next ∷ rest) all.1))

-- what a declaration names
abbrev IsNamedDecl : Decl → Type 0
IsNamedDecl decl = IsTrue (is_name decl.name) × IfSome decl.other (λ name. IsTrue (is_name name))

valid_named : (earlier decls : List Decl) → AreDecls earlier decls → Each IsNamedDecl decls
valid_named earlier [] valid = tt
valid_named earlier (decl ∷ decls) valid = ((valid.0.name, valid.0.other), valid_named (earlier ++ decl ∷ []) decls valid.1)

declared_part : (decls : List Decl) (number : ℕ) → Each IsNamedDecl decls → IsPart (name_of_decl decls number)
declared_part [] number h = no_part
declared_part (decl ∷ decls) zero h = name_part decl.name h.0.0
declared_part (decl ∷ decls) (suc number) h = declared_part decls number h.1

other_part : (decls : List Decl) (number : ℕ) → Each IsNamedDecl decls → IsPart (other_of_decl decls number)
other_part [] number h = no_part
other_part (decl ∷ decls) zero h = by decl.other h.0.1
  where
    by : (o : Option (List ℕ)) → IfSome o (λ name. IsTrue (is_name name)) → IsPart (unwrap_or o [])
    by None is = no_part
    by (Some name) is = name_part name is
other_part (decl ∷ decls) (suc number) h = other_part decls number h.1

path_parts : (decls : List Decl) (path : List ModePart) → Each IsNamedDecl decls → Each IsPart (map (part_name decls) path)
path_parts decls [] h = tt
path_parts decls (Named number ∷ path) h = (declared_part decls number h, path_parts decls path h)
path_parts decls (Other number ∷ path) h = (other_part decls number h, path_parts decls path h)

-- a path has at most as many parts as it may
path_short : (decls : List Decl) (known : Knowledge) (parts : ℕ) (parent : Option ℕ) → length (path_below decls known parts parent) ≤ parts
path_short decls known zero parent = omega arith
path_short decls known (suc parts) parent =
    at (first_of (is_met known) (declared_under decls parent)) (first_of (λ decl. is_some decl.other) (declared_under decls parent)) (λ number. path_short decls known parts (Some number))
  where
    at : (chosen other : Option ℕ) → ((number : ℕ) → length (path_below decls known parts (Some number)) ≤ parts) → length (path_from (λ number. path_below decls known parts (Some number)) chosen other) ≤ suc parts
    at (Some number) other short = omega (arith, short number)
    at None (Some number) short = omega arith
    at None None short = omega arith

pub mode_is_text : (decls : List Decl) (known : Knowledge) → AreDecls [] decls → IsTrue (is_text (mode_text decls known))
mode_is_text decls known valid =
    let path = mode_of decls known in
    let parts = path_parts decls path (valid_named [] decls valid) in
    stays_text (mode_text decls known)
    (omega (arith, joined_short (map (part_name decls) path) parts, length-map path (part_name decls), path_short decls known 16 None))
    (joined_stays (map (part_name decls) path) parts)
