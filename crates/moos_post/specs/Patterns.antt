-- When a pattern matches a name.
use Rattle.std.specs.Prelude.{ℕ, Bool, true, false, ◌&&◌, ◌||◌, ◌==◌, if◌then◌else◌, List, [], ◌∷◌}

-- `*` stands for any run of bytes, none included, `?` for any one byte, and every other byte for itself
abbrev pub matches : List ℕ → List ℕ → Bool
matches [] [] = true
matches [] (byte ∷ name) = false
matches (sign ∷ pattern) [] = sign == 42 && matches pattern []
matches (sign ∷ pattern) (byte ∷ name) =
    if sign == 63 then matches pattern name
    else if sign == 42 then matches pattern (byte ∷ name) || matches (sign ∷ pattern) name
    else sign == byte && matches pattern name
