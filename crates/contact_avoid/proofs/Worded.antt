-- What is posted of a contact is a text as a value may be.
use Rattle.std.proofs.Common.{◌≡◌, ℕ, ◌+◌, ◌≤◌, ◌/◌, ◌%◌, ◌^◌, ◌<◌, ◌-◌, ◌==◌, Bool, true, false, refl, ◌&&◌, nat_le, List, [], ◌∷◌, ◌++◌, length, length-append, suc, arith}
use Rattle.std.specs.Prelude.{codes, decimal, if◌then◌else◌, IsTrue, not, ℤ, pos, negsuc}
use Rattle.std.specs.List.{All, list_all, position_or_len}
use Rattle.std.proofs.lemmas.Bool.{and_parts, leb-true}
use Rattle.std.proofs.lemmas.Bool.Decides.{nat_tests}
use Rattle.std.proofs.lemmas.List.Elements.{All-append, All-from_recursion, All-weaker}
use Rattle.std.proofs.lemmas.List.Sums.{AllPass-from_list_all, position_or_len_is}
use Rattle.moos_post.specs.Words.{begins_name, is_control, is_name, is_name_byte, is_text, IsMilli}
use Rattle.moos_text.specs.Numbers.{decimals_text, digit_text, milli_text, unsigned_text}
use Rattle.moos_text.proofs.PrintedDigits.{milli_bytes}
use Rattle.moos_text.proofs.RoundTrip.{whole_short}
use Rattle.contact_avoid.specs.declared.report.Report.{Report}
use Rattle.contact_avoid.specs.Contacts.{inside_text, outside_text}

-- the byte may stand in a text
abbrev IsFine : ℕ → Type 0
IsFine byte = is_control byte ≡ false

fine_text : (bytes : List ℕ) → length bytes ≤ 4096 → All IsFine bytes → is_text bytes ≡ true
fine_text bytes short all =
    let past : position_or_len is_control bytes ≡ length bytes
    = position_or_len_is is_control bytes (length bytes) 0 (omega arith) (λ k within. all k 0 within) (λ within. absurd (omega (arith, within))) in
    grind (arith, nat_tests)

-- so many bytes at most, all of which may stand in a text
record IsPart (most : ℕ) (bytes : List ℕ) : Type 0 where
  short : length bytes ≤ most
  fine : All IsFine bytes

both : {m n : ℕ} {a b : List ℕ} → IsPart m a → IsPart n b → IsPart (m + n) (a ++ b)
both {m} {n} {a} {b} first second = record { short = omega (arith, first.short, second.short, length-append a b); fine = All-append IsFine a b first.fine second.fine }

-- the words of a text
word : (bytes : List ℕ) → list_all (λ byte. not (is_control byte)) bytes ≡ true → IsPart (length bytes) bytes
word bytes is = record { short = omega arith; fine = All-weaker (λ byte. not (is_control byte) ≡ true) IsFine (λ byte fine. grind arith) bytes (AllPass-from_list_all (λ byte. not (is_control byte)) bytes is) }

name_part : (name : List ℕ) → IsTrue (is_name name) → IsPart 64 name
name_part [] is = absurd cc
name_part (first ∷ rest) is =
    let parts = and_parts (begins_name first && list_all is_name_byte (first ∷ rest)) (nat_le (length (first ∷ rest)) 64) is in
    record {
      short = leb-true (length (first ∷ rest)) 64 parts.1;
      fine = All-weaker (λ byte. is_name_byte byte ≡ true) IsFine (λ byte name. grind (arith, nat_tests)) (first ∷ rest)
          (AllPass-from_list_all is_name_byte (first ∷ rest) (and_parts (begins_name first) (list_all is_name_byte (first ∷ rest)) parts.0).1);
    }

decimals_short : (rest : ℕ) → length (decimals_text rest) ≤ 4
decimals_short rest = by (rest == 0) (rest % 100 == 0) (rest % 10 == 0)
  where
    by : (none tenths hundredths : Bool)
        → length (if none then [] else if tenths then codes "." ++ digit_text (rest / 100) else if hundredths then codes "." ++ digit_text (rest / 100) ++ digit_text (rest / 10 % 10) else codes "." ++ digit_text (rest / 100) ++ digit_text (rest / 10 % 10) ++ digit_text (rest % 10)) ≤ 4
    by true tenths hundredths = omega arith
    by false true hundredths = omega arith
    by false false true = omega arith
    by false false false = omega arith

unsigned_short : (n : ℕ) → n < 2 ^ 64 → length (unsigned_text n) ≤ 21
unsigned_short n small = omega (arith, length-append (decimal (n / 1000)) (decimals_text (n % 1000)), whole_short n small, decimals_short (n % 1000))

number_part : (number : ℤ) → IsMilli number → IsPart 22 (milli_text number)
number_part number within = record { short = shown number within; fine = All-from_recursion IsFine (milli_text number) (milli_bytes IsFine (λ byte digit. grind (arith, nat_tests)) refl refl number within) }
  where
    shown : (number : ℤ) → IsMilli number → length (milli_text number) ≤ 22
    shown (pos n) within = let small : n ≤ 10 ^ 12 = grind (arith, within.1) in omega (arith, unsigned_short n (omega (arith, small)))
    shown (negsuc n) within = let small : n ≤ 10 ^ 12 - 1 = grind (arith, within.0) in omega (arith, unsigned_short (suc n) (omega (arith, small)))

-- a contact's name is a text
pub name_text : (name : List ℕ) → IsTrue (is_name name) → IsTrue (is_text name)
name_text name is = let part = name_part name is in fine_text name (omega (arith, part.short)) part.fine

-- what its behaviour is told is one
pub inside_is_text : (report : Report) → IsTrue (is_name report.name) → IsMilli report.x → IsMilli report.y → IsMilli report.speed → IsMilli report.heading → IsTrue (is_text (inside_text report))
inside_is_text report name x y speed heading =
    let named = both (both (both (word (codes "name=avd_") refl) (name_part report.name name)) (word (codes " # contact=") refl)) (name_part report.name name) in
    let east = both (both named (word (codes " # contact_x=") refl)) (number_part report.x x) in
    let north = both (both east (word (codes " # contact_y=") refl)) (number_part report.y y) in
    let fast = both (both north (word (codes " # contact_speed=") refl)) (number_part report.speed speed) in
    let all = both (both fast (word (codes " # contact_heading=") refl)) (number_part report.heading heading) in
    fine_text (inside_text report) (omega (arith, all.short)) all.fine

pub outside_is_text : (report : Report) → IsTrue (is_name report.name) → IsTrue (is_text (outside_text report))
outside_is_text report name =
    let all = both (both (both (word (codes "name=avd_") refl) (name_part report.name name)) (word (codes " # resolved=") refl)) (word (codes "true") refl) in
    fine_text (outside_text report) (omega (arith, all.short)) all.fine
