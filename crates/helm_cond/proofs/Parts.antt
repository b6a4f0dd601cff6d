-- The parts of a text against those of a mode.
use Rattle.std.proofs.Common.{◌≡◌, ℕ, suc, ◌+◌, ◌<◌, ◌≤◌, Bool, true, false, cond, not, ◌&&◌, ◌||◌, ◌==◌, List, [], ◌∷◌, length, drop, refl, ap, sym, ◌∙◌, arith}
use Rattle.std.proofs.Math.Numerals.{one-add}
use Rattle.std.proofs.lemmas.List.Splits.{slice_split_first}
use Rattle.std.proofs.lemmas.Bool.Decides.{nat_tests}
use Rattle.std.specs.Char.{eq_ignore_ascii_case}
use Rattle.std.specs.List.{onto_first, before_first, position_or_len}
use Rattle.std.specs.Str.{str_eq_ignore_ascii_case}
use Rattle.helm_cond.specs.Conditions.{mode_names, begins_with, stands_in}
use Rattle.helm_cond.specs.Modes.{begins_text}

-- the names of a text with one byte more in front
names-cons : (b : Bool) (byte : ℕ) (text : List ℕ) → (byte == 58) ≡ b → mode_names (byte ∷ text) ≡ cond b ([] ∷ mode_names text) (onto_first byte (mode_names text))
names-cons b byte text h = ap (λ c. cond c ([] ∷ mode_names text) (onto_first byte (mode_names text))) h

same_colon : (a b : ℕ) → (a == 58) ≡ true → (b == 58) ≡ true → eq_ignore_ascii_case a b ≡ true
same_colon a b first second = grind (arith, nat_tests)

other_left : (a b : ℕ) → (a == 58) ≡ true → (b == 58) ≡ false → eq_ignore_ascii_case a b ≡ false
other_left a b first second = grind (arith, nat_tests)

other_right : (a b : ℕ) → (a == 58) ≡ false → (b == 58) ≡ true → eq_ignore_ascii_case a b ≡ false
other_right a b first second = grind (arith, nat_tests)

and_assoc : (a b c : Bool) → ((a && b) && c) ≡ (a && (b && c))
and_assoc true b c = refl
and_assoc false b c = refl

-- a text has a name at least
pub record HasFirst (names : List (List ℕ)) : Type 0 where
  pub first : List ℕ
  pub rest : List (List ℕ)
  pub is : names ≡ first ∷ rest

has_first : (text : List ℕ) → HasFirst (mode_names text)
has_first [] = record { first = []; rest = []; is = refl }
has_first (byte ∷ text) = at (byte == 58) refl (has_first text)
  where
    at : (b : Bool) → (byte == 58) ≡ b → HasFirst (mode_names text) → HasFirst (mode_names (byte ∷ text))
    at true h more = record { first = []; rest = mode_names text; is = names-cons true byte text h }
    at false h more = record { first = byte ∷ more.first; rest = more.rest; is = names-cons false byte text h ∙ ap (onto_first byte) more.is }

first_two : (a b : ℕ) (p q : List ℕ) (ps qs : List (List ℕ)) →
    begins_with ((a ∷ p) ∷ ps) ((b ∷ q) ∷ qs) ≡ (eq_ignore_ascii_case a b && begins_with (p ∷ ps) (q ∷ qs))
first_two a b p q ps qs = and_assoc (eq_ignore_ascii_case a b) (str_eq_ignore_ascii_case p q) (begins_with ps qs)

-- the parts of the text are the first of the mode's exactly where the mode begins with the text, up to the end of a part
pub begins_is : (text mode : List ℕ) → begins_with (mode_names text) (mode_names mode) ≡ begins_text text mode
begins_is [] [] = refl
begins_is [] (b ∷ mode) = at (b == 58) refl (has_first mode)
  where
    at : (t : Bool) → (b == 58) ≡ t → HasFirst (mode_names mode) → begins_with ([] ∷ []) (mode_names (b ∷ mode)) ≡ (b == 58)
    at true h more = ap (begins_with ([] ∷ [])) (names-cons true b mode h) ∙ sym h
    at false h more = ap (begins_with ([] ∷ [])) (names-cons false b mode h ∙ ap (onto_first b) more.is) ∙ sym h
begins_is (a ∷ text) [] = at (a == 58) refl (has_first text)
  where
    at : (t : Bool) → (a == 58) ≡ t → HasFirst (mode_names text) → begins_with (mode_names (a ∷ text)) ([] ∷ []) ≡ false
    at true h more = ap (λ names. begins_with names ([] ∷ [])) (names-cons true a text h) ∙ ap (λ names. begins_with names []) more.is
    at false h more = ap (λ names. begins_with names ([] ∷ [])) (names-cons false a text h ∙ ap (onto_first a) more.is)
begins_is (a ∷ text) (b ∷ mode) = at (a == 58) refl (b == 58) refl (has_first text) (has_first mode) (begins_is text mode)
  where
    at : (s : Bool) → (a == 58) ≡ s → (t : Bool) → (b == 58) ≡ t → HasFirst (mode_names text) → HasFirst (mode_names mode) →
        begins_with (mode_names text) (mode_names mode) ≡ begins_text text mode →
        begins_with (mode_names (a ∷ text)) (mode_names (b ∷ mode)) ≡ (eq_ignore_ascii_case a b && begins_text text mode)
    at true h true g own other same =
        ap (λ names. begins_with names (mode_names (b ∷ mode))) (names-cons true a text h)
        ∙ ap (begins_with ([] ∷ mode_names text)) (names-cons true b mode g)
        ∙ same ∙ ap (λ c. c && begins_text text mode) (sym (same_colon a b h g))
    at true h false g own other same =
        ap (λ names. begins_with names (mode_names (b ∷ mode))) (names-cons true a text h)
        ∙ ap (begins_with ([] ∷ mode_names text)) (names-cons false b mode g ∙ ap (onto_first b) other.is)
        ∙ ap (λ c. c && begins_text text mode) (sym (other_left a b h g))
    at false h true g own other same =
        ap (λ names. begins_with names (mode_names (b ∷ mode))) (names-cons false a text h ∙ ap (onto_first a) own.is)
        ∙ ap (begins_with ((a ∷ own.first) ∷ own.rest)) (names-cons true b mode g)
        ∙ ap (λ c. c && begins_text text mode) (sym (other_right a b h g))
    at false h false g own other same =
        ap (λ names. begins_with names (mode_names (b ∷ mode))) (names-cons false a text h ∙ ap (onto_first a) own.is)
        ∙ ap (begins_with ((a ∷ own.first) ∷ own.rest)) (names-cons false b mode g ∙ ap (onto_first b) other.is)
        ∙ first_two a b own.first other.first own.rest other.rest
        ∙ ap (λ c. eq_ignore_ascii_case a b && c)
        (ap (λ names. begins_with names (other.first ∷ other.rest)) (sym own.is) ∙ ap (begins_with (mode_names text)) (sym other.is) ∙ same)

-- a mode whose first part ends at a `:`, and one of one part
pub name_ends : (mode : List ℕ) (n : ℕ) → n ≡ position_or_len (λ byte. byte == 58) mode → n < length mode →
    mode_names mode ≡ before_first (λ byte. byte == 58) mode ∷ mode_names (drop (n + 1) mode)
name_ends mode n is within =
    slice_split_first (λ byte. byte == 58) mode 0 (omega (arith, is)) ∙ ap (λ m. before_first (λ byte. byte == 58) mode ∷ mode_names (drop (m + 1) mode)) (sym is)

pub part_ends : (parts : List (List ℕ)) (mode first behind : List ℕ) → mode_names mode ≡ first ∷ mode_names behind → begins_with parts (mode_names mode) ≡ false →
    stands_in parts (mode_names mode) ≡ stands_in parts (mode_names behind)
part_ends parts mode first behind cut off =
    ap (stands_in parts) cut ∙ ap (λ c. c || stands_in parts (mode_names behind)) (ap (begins_with parts) (sym cut) ∙ off)

whole_part : (mode : List ℕ) → length mode ≤ position_or_len (λ byte. byte == 58) mode → mode_names mode ≡ mode ∷ []
whole_part [] long = refl
whole_part (byte ∷ mode) long = at (byte == 58) refl (whole_part mode)
  where
    at : (b : Bool) → (byte == 58) ≡ b → (length mode ≤ position_or_len (λ byte. byte == 58) mode → mode_names mode ≡ mode ∷ []) → mode_names (byte ∷ mode) ≡ (byte ∷ mode) ∷ []
    at true h later = absurd (let e : position_or_len (λ byte. byte == 58) (byte ∷ mode) ≡ 0 = ap (λ c. cond (not c) (1 + position_or_len (λ byte. byte == 58) mode) 0) h in omega arith)
    at false h later =
        let e : position_or_len (λ byte. byte == 58) (byte ∷ mode) ≡ suc (position_or_len (λ byte. byte == 58) mode) =
        ap (λ c. cond (not c) (1 + position_or_len (λ byte. byte == 58) mode) 0) h ∙ one-add (position_or_len (λ byte. byte == 58) mode) in
        names-cons false byte mode h ∙ ap (onto_first byte) (later (omega arith))

pub last_name : (mode : List ℕ) (n : ℕ) → n ≡ position_or_len (λ byte. byte == 58) mode → length mode ≤ n → mode_names mode ≡ mode ∷ []
last_name mode n is whole = whole_part mode (omega (arith, is, whole))

pub last_part : (parts : List (List ℕ)) (mode : List ℕ) → mode_names mode ≡ mode ∷ [] → begins_with parts (mode_names mode) ≡ false → stands_in parts (mode_names mode) ≡ false
last_part parts mode one off = ap (stands_in parts) one ∙ ap (λ c. c || false) (ap (begins_with parts) (sym one) ∙ off)

-- a part more in front of which the parts stand
pub stands_first : (parts : List (List ℕ)) (mode : List ℕ) → begins_with parts (mode_names mode) ≡ true → stands_in parts (mode_names mode) ≡ true
stands_first parts mode first = by (has_first mode)
  where
    by : HasFirst (mode_names mode) → stands_in parts (mode_names mode) ≡ true
    by has =
        let on : begins_with parts (has.first ∷ has.rest) ≡ true = ap (begins_with parts) (sym has.is) ∙ first in
        ap (stands_in parts) has.is ∙ ap (λ c. c || stands_in parts has.rest) on
