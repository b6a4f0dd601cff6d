-- Which numbers and which bytes may be in a value, a name, a text and a pattern.
use Rattle.std.specs.Prelude.{ℕ, ℤ, pos, neg_ℤ, ◌≤ℤ◌, ◌^◌, Bool, false, ◌&&◌, ◌||◌, ◌==◌, not, nat_le, List, [], ◌∷◌, length, Option, position, is_none}
use Rattle.std.specs.List.{list_all}

-- a number of thousandths that a value may be: at most a thousand million either way
abbrev pub IsMilli : ℤ → Type 0
IsMilli n = (neg_ℤ (pos (10 ^ 12)) ≤ℤ n) × (n ≤ℤ pos (10 ^ 12))

-- the byte is from low to high
abbrev pub is_between : ℕ → ℕ → ℕ → Bool
is_between low high byte = nat_le low byte && nat_le byte high

-- the byte is a digit, `0` to `9`
abbrev pub is_digit : ℕ → Bool
is_digit byte = is_between 48 57 byte

-- the byte is a letter, `A` to `Z` or `a` to `z`
abbrev pub is_alphabetic : ℕ → Bool
is_alphabetic byte = is_between 65 90 byte || is_between 97 122 byte

-- a name may begin with the byte: a letter or `_`
abbrev pub begins_name : ℕ → Bool
begins_name byte = is_alphabetic byte || byte == 95

-- the byte may be in a name: a letter, a digit, `_`, `-` or `.`
abbrev pub is_name_byte : ℕ → Bool
is_name_byte byte = is_alphabetic byte || is_digit byte || byte == 95 || byte == 45 || byte == 46

-- 1 to 64 bytes of a name, the first one that begins a name
abbrev pub is_name : List ℕ → Bool
is_name [] = false
is_name (first ∷ rest) = begins_name first && list_all is_name_byte (first ∷ rest) && nat_le (length (first ∷ rest)) 64

-- the byte may be in a pattern: one of a name, `*` or `?`
abbrev pub is_pattern_byte : ℕ → Bool
is_pattern_byte byte = is_name_byte byte || byte == 42 || byte == 63

-- 1 to 64 bytes of a pattern
abbrev pub is_pattern : List ℕ → Bool
is_pattern bytes = nat_le 1 (length bytes) && list_all is_pattern_byte bytes && nat_le (length bytes) 64

-- the byte can't be in a text: a control byte other than the tab
abbrev pub is_control : ℕ → Bool
is_control byte = (nat_le byte 31 && not (byte == 9)) || byte == 127

-- where the first byte is that a text can't hold
abbrev pub control_place : List ℕ → Option ℕ
control_place bytes = position is_control bytes

-- at most 4,096 bytes, each of which a text can hold
abbrev pub is_text : List ℕ → Bool
is_text bytes = nat_le (length bytes) 4096 && is_none (control_place bytes)
