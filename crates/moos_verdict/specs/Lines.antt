-- A text by its lines.
use Rattle.std.specs.Prelude.{ℕ, zero, suc, ◌==◌, if◌then◌else◌, List, [], ◌∷◌}

-- The first lines of a text, each with its line end, which the last line of the text may lack: the whole text if it has no more.
abbrev pub first_lines : ℕ → List ℕ → List ℕ
first_lines zero text = []
first_lines (suc count) [] = []
first_lines (suc count) (byte ∷ text) = byte ∷ (if byte == 10 then first_lines count text else first_lines (suc count) text)

-- how many lines have an end
abbrev pub whole_lines : List ℕ → ℕ
whole_lines [] = 0
whole_lines (byte ∷ text) = if byte == 10 then suc (whole_lines text) else whole_lines text
