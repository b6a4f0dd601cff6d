-- The names of axes.
use Rattle.std.specs.Prelude.{ℕ, Bool, ◌&&◌, ◌||◌, ◌==◌, nat_le, nat_lt, List, length, slice_index}
use Rattle.std.specs.List.{list_all}

-- `A` to `Z` or `a` to `z`
abbrev pub is_axis_letter : ℕ → Bool
is_axis_letter byte = (nat_le 65 byte && nat_le byte 90) || (nat_le 97 byte && nat_le byte 122)

-- a letter, a digit or `_`
abbrev pub is_word_byte : ℕ → Bool
is_word_byte byte = is_axis_letter byte || (nat_le 48 byte && nat_le byte 57) || byte == 95

-- 1 to 16 letters, digits or `_`, the first a letter
abbrev pub is_axis_name : List ℕ → Bool
is_axis_name bytes = nat_lt 0 (length bytes) && is_axis_letter (slice_index bytes 0) && nat_le (length bytes) 16 && list_all is_word_byte bytes
