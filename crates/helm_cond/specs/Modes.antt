-- A text that is compared with a mode's, byte by byte: this serves the comparison with the mode alone.
use Rattle.std.specs.Prelude.{ℕ, Bool, true, false, ◌&&◌, ◌==◌, List, [], ◌∷◌}
use Rattle.std.specs.Char.{eq_ignore_ascii_case}

-- a part of a mode ends before these bytes
abbrev pub ends_part : List ℕ → Bool
ends_part [] = true
ends_part (byte ∷ bytes) = byte == 58

-- the mode's text begins with the text, ignoring the case of ASCII letters, and a part of it ends there
abbrev pub begins_text : List ℕ → List ℕ → Bool
begins_text [] mode = ends_part mode
begins_text (byte ∷ text) [] = false
begins_text (byte ∷ text) (other ∷ mode) = eq_ignore_ascii_case byte other && begins_text text mode
