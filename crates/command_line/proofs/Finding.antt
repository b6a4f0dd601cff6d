-- What the getters read of the matches, over what a command found.
use Rattle.std.proofs.Common.{◌≡◌, ℕ, ◌<◌, ◌≤◌, ◌^◌, Bool, true, false, List, Option, Some, None, Result, Ok, Err, refl, sym, subst, ◌∙◌, codes, option_map, nat_lt, length, ap, arith}
use Rattle.std.specs.Prelude.{if◌then◌else◌, is_none, is_some}
use Rattle.std.specs.Borrow.{Bor}
use Rattle.std.proofs.lemmas.Bool.{lt-leb}
use Rattle.std.proofs.Math.Bool.{and-false}
use Rattle.std.specs.Str.{bytes_eq}
use Rattle.std.specs.Str.Parse.{IsNumeral, ParsesUnsigned, digits_value, without_leading_plus}
use Rattle.clap.specs.Matches.{ReadsOne}
use Rattle.clap.specs.ValueTests.{is_numeral, is_unsigned_in}
use Rattle.clap.specs.declared.builder.value_parser.ValueParser.TheVariants.{Unsigned}
use Rattle.clap.proofs.ValueTestLemmas.{Accepts-accepts, accepts-Accepts}
use Rattle.clap.specs.Words.{Text, first_of, first_value, one_text, rows_of}
use Rattle.clap.specs.declared.parser.matches.Found.{Found}
use Rattle.clap.proofs.WalkLemmas.{both, first_value-rows, one_text-rows}
use Rattle.moos_post.specs.Words.{control_place}
use Rattle.command_line.specs.Commands.{bounded, bounded_in, bounded_of, file_in, is_set, text_of}
use Rattle.command_line.specs.Jobs.{other_file_in}

-- more bytes than a text can hold are no text, nor are bytes with one that it can't hold
pub long_no_text : (bytes : List ℕ) → 4096 < length bytes → None ≡ text_of bytes
long_no_text bytes long = rw (lt-leb (length bytes) 4096 long) refl

pub bad_no_text : (bytes : List ℕ) (place : ℕ) → length bytes ≤ 4096 → control_place bytes ≡ Some place → None ≡ text_of bytes
bad_no_text bytes place short bad = rw (bad, and-false) refl

-- the flag's value that was found
pub set_is : (f : Found) (id : Text) {got : Option (Bor Text)} {value : Bor Text} → option_map (λ text. text.now) got ≡ first_value f id → got ≡ Some value
    → bytes_eq value.now (codes "true") ≡ is_set id (rows_of f)
set_is f id found is = rw (← first_value-rows f id, ← found, is) refl

pub set_none : (f : Found) (id : Text) {got : Option (Bor Text)} → option_map (λ text. text.now) got ≡ first_value f id → got ≡ None → false ≡ is_set id (rows_of f)
set_none f id found is = rw (← first_value-rows f id, ← found, is) refl

-- the name that was found
pub file_is : (f : Found) (id : Text) {got : Option (Bor Text)} {name : Bor Text} → option_map (λ text. text.now) got ≡ first_value f id → got ≡ Some name
    → text_of name.now ≡ file_in id (rows_of f)
file_is f id found is = rw (← first_value-rows f id, ← found, is) refl

pub file_none : (f : Found) (id : Text) {got : Option (Bor Text)} → option_map (λ text. text.now) got ≡ first_value f id → got ≡ None → None ≡ file_in id (rows_of f)
file_none f id found is = rw (← first_value-rows f id, ← found, is) refl

-- no such file was found
pub other_file_none : (f : Found) (id : Text) (got : Option (Bor Text)) → option_map (λ text. text.now) got ≡ first_value f id → is_some got ≡ false → Some None ≡ other_file_in id (rows_of f)
other_file_none f id None found none = rw (← first_value-rows f id, ← found) refl
other_file_none f id (Some text) found none = let both : true ≡ false = none in absurd cc

-- one was found whose name is none
pub other_file_bad : (f : Found) (id : Text) (got : Option (Bor Text)) → option_map (λ text. text.now) got ≡ first_value f id → is_some got ≡ true
    → None ≡ file_in id (rows_of f) → None ≡ other_file_in id (rows_of f)
other_file_bad f id None found some bad = let both : false ≡ true = some in absurd cc
other_file_bad f id (Some text) found some bad = found_bad (is_none (first_of id (rows_of f))) there
  where
    there : is_none (first_of id (rows_of f)) ≡ false
    there = ap is_none (sym (first_value-rows f id) ∙ sym found)

    found_bad : (none : Bool) → none ≡ false → None ≡ (if none then Some None else option_map (λ name. Some name) (file_in id (rows_of f)))
    found_bad false is = ap (λ (name : Option Text). option_map (λ name. Some name) name) bad
    found_bad true is = absurd cc

-- a text that reads as a number
bounded_read : (low high : ℕ) (text : Text) (number : ℕ) → IsNumeral 10 (without_leading_plus text) → digits_value 10 (without_leading_plus text) < 2 ^ 64
    → number ≡ digits_value 10 (without_leading_plus text) → bounded low high number ≡ bounded_of low high text
bounded_read low high text number numeral small is =
    let value = digits_value 10 (without_leading_plus text) in
    let accepted : is_unsigned_in 0 (2 ^ 64) text ≡ true = Accepts-accepts false (Unsigned 0 (2 ^ 64)) text (numeral, small, omega arith, omega arith) in
    let first = both (is_numeral (without_leading_plus text)) _ accepted in
    let second = both (nat_lt value (2 ^ 64)) _ first.1 in
    rw (is, first.0, second.0) refl

-- and one that doesn't
bounded_refused : (low high : ℕ) (text : Text) → (IsNumeral 10 (without_leading_plus text) × (digits_value 10 (without_leading_plus text) < 2 ^ 64) → ⊥) → low ≡ bounded_of low high text
bounded_refused low high text unread = go (is_unsigned_in low high text) refl
  where
    go : (passes : Bool) → is_unsigned_in low high text ≡ passes → low ≡ bounded_of low high text
    go false is = rw is refl
    go true is = let read = accepts-Accepts false (Unsigned low high) text is in absurd (unread (read.0, read.1))

-- the number within the bounds that was found, whatever an error is
module _ {E : Type 0} (G : List ℕ → Result ℕ E → Type 0) (only : (text : Text) (read : Result ℕ E) → G text read → ParsesUnsigned 64 10 text read) (f : Found) (id : Text) (low high : ℕ) where
  abbrev IsRead : Option ℕ → Type 0
  IsRead got = (text : Text) → one_text f id ≡ Some text → ReadsOne G text got

  abbrev IsNot : Option ℕ → Type 0
  IsNot got = one_text f id ≡ None → got ≡ None

  pub bounded_is : {got : Option ℕ} {number : ℕ} → IsNot got → IsRead got → got ≡ Some number → bounded low high number ≡ bounded_in low high id (rows_of f)
  bounded_is {got = got} {number = number} not read is = go (one_text f id) refl
    where
      go : (found : Option Text) → one_text f id ≡ found → bounded low high number ≡ bounded_in low high id (rows_of f)
      go None at = let both_ways : Some number ≡ None = sym is ∙ not at in cc
      go (Some text) at =
          let parsed = only text (Ok number) (subst (ReadsOne G text) is (read text at)) in
          rw (← one_text-rows f id, at) (bounded_read low high text number parsed.0.0 parsed.0.1 parsed.1)

  pub bounded_none : {got : Option ℕ} → IsNot got → IsRead got → got ≡ None → low ≡ bounded_in low high id (rows_of f)
  bounded_none {got = got} not read is = go (one_text f id) refl
    where
      go : (found : Option Text) → one_text f id ≡ found → low ≡ bounded_in low high id (rows_of f)
      go None at = rw (← one_text-rows f id, at) refl
      go (Some text) at =
          let failed = subst (ReadsOne G text) is (read text at) in
          rw (← one_text-rows f id, at) (bounded_refused low high text (only text (Err failed.0) failed.1))
