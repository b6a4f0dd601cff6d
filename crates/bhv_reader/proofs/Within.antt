-- What a line says is no longer than the text in which the line stands.
use Rattle.std.proofs.Common.{◌≡◌, ℕ, ◌+◌, ◌-◌, ◌≤◌, Bool, true, false, ◌&&◌, ◌==◌, cond, not, nat_lt, List, [], ◌∷◌, length, take, Some, None, subst, arith}
use Rattle.std.specs.Prelude.{reverse}
use Rattle.std.proofs.lemmas.List.{length-drop, length-reverse, length-take}
use Rattle.moos_text.specs.Lines.{begins_comment, content_of, first_line, is_blank, is_quoted_after, trimmed, uncommented, without_front_blanks, without_last, without_return}
use Rattle.moos_text.specs.Pairs.{is_equals, Sides, sides_of}
use Rattle.std.specs.List.{after_first, before_first, position_or_len}

front_within : (bytes : List ℕ) → length (without_front_blanks bytes) ≤ length bytes
front_within [] = omega arith
front_within (byte ∷ bytes) = at (is_blank byte) (front_within bytes)
  where
    at : (b : Bool) → length (without_front_blanks bytes) ≤ length bytes → length (cond b (without_front_blanks bytes) (byte ∷ bytes)) ≤ length (byte ∷ bytes)
    at true h = omega (arith, h)
    at false h = omega arith

trimmed_within : (bytes : List ℕ) → length (trimmed bytes) ≤ length bytes
trimmed_within bytes =
    let front = without_front_blanks bytes in
    let one : length (trimmed bytes) ≡ length (without_front_blanks (reverse front)) = length-reverse (without_front_blanks (reverse front)) in
    let two : length (reverse front) ≡ length front = length-reverse front in
    omega (arith, one, two, front_within (reverse front), front_within bytes)

last_within : (last : ℕ) (bytes : List ℕ) → length (without_last last bytes) ≤ length bytes
last_within last [] = omega arith
last_within last (byte ∷ []) = at (byte == last)
  where
    at : (b : Bool) → length (cond b [] (byte ∷ [])) ≤ length (byte ∷ [])
    at true = omega arith
    at false = omega arith
last_within last (byte ∷ next ∷ rest) = let h = last_within last (next ∷ rest) in omega (arith, h)

uncommented_within : (quoted : Bool) (bytes : List ℕ) → length (uncommented quoted bytes) ≤ length bytes
uncommented_within quoted [] = omega arith
uncommented_within quoted (byte ∷ rest) = at (not quoted && begins_comment (byte ∷ rest)) (uncommented_within (is_quoted_after quoted byte) rest)
  where
    at : (b : Bool) → length (uncommented (is_quoted_after quoted byte) rest) ≤ length rest → length (cond b [] (byte ∷ uncommented (is_quoted_after quoted byte) rest)) ≤ length (byte ∷ rest)
    at true h = omega arith
    at false h = omega (arith, h)

take_within : (n : ℕ) (bytes : List ℕ) → length (take n bytes) ≤ length bytes
take_within n bytes = let e = length-take n bytes in omega (arith, e)

pub said_within : (text : List ℕ) → length (trimmed (content_of (first_line text))) ≤ length text
said_within text =
    let line = first_line text in
    let one = trimmed_within (content_of line) in
    let two : length (content_of line) ≤ length (without_return line) = uncommented_within false (without_return line) in
    let three : length (without_return line) ≤ length line = last_within 13 line in
    let four : length line ≤ length text = take_within (position_or_len (λ byte. byte == 10) text) text in
    omega (arith, one, two, three, four)

-- what stands behind the first `=` is no longer than the text
pub value_within : (text : List ℕ) (sides : Sides) → sides_of text ≡ Some sides → length sides.value ≤ length text
value_within text sides is = at (nat_lt (position_or_len is_equals text) (length text)) is
  where
    behind : List ℕ
    behind = after_first is_equals text

    both : Sides
    both = record { name = trimmed (before_first is_equals text); value = trimmed behind }

    at : (b : Bool) → cond b (Some both) None ≡ Some sides → length sides.value ≤ length text
    at false e = absurd cc
    at true e =
        let same : both ≡ sides = cc in
        let short : length behind ≡ length text - (position_or_len is_equals text + 1) = length-drop (position_or_len is_equals text + 1) text in
        subst (λ (s : Sides). length s.value ≤ length text) same (omega (arith, short, trimmed_within behind))
