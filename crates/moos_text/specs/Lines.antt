-- The lines of a file, what of a line counts, and the words that are in it.
use Rattle.std.specs.Prelude.{ℕ, max, Bool, false, not, ◌&&◌, ◌||◌, ◌==◌, if◌then◌else◌, List, [], ◌∷◌, length, drop, fold, reverse}
use Rattle.std.specs.List.{before_first, position_or_len}

-- the byte in front of the first of these lines, or as a line of its own if there is none
abbrev pub onto_first : ℕ → List (List ℕ) → List (List ℕ)
onto_first byte [] = (byte ∷ []) ∷ []
onto_first byte (line ∷ lines) = (byte ∷ line) ∷ lines

-- a line ends at a line feed, or at the end of the file if bytes are after the last line feed
abbrev pub raw_lines : List ℕ → List (List ℕ)
raw_lines [] = []
raw_lines (byte ∷ bytes) = if byte == 10 then [] ∷ raw_lines bytes else onto_first byte (raw_lines bytes)

-- the last of the lines, which is line 1 in an empty file
abbrev pub last_line : List ℕ → ℕ
last_line bytes = max 1 (length (raw_lines bytes))

-- the first of the lines: the bytes before the first line feed
abbrev pub first_line : List ℕ → List ℕ
first_line bytes = before_first (λ byte. byte == 10) bytes

-- the bytes end with this one
abbrev pub ends_with : ℕ → List ℕ → Bool
ends_with last [] = false
ends_with last (byte ∷ []) = byte == last
ends_with last (byte ∷ next ∷ rest) = ends_with last (next ∷ rest)

-- the bytes, without this one if they end with it
abbrev pub without_last : ℕ → List ℕ → List ℕ
without_last last [] = []
without_last last (byte ∷ []) = if byte == last then [] else byte ∷ []
without_last last (byte ∷ next ∷ rest) = byte ∷ without_last last (next ∷ rest)

-- a carriage return at the end of a line is dropped
abbrev pub without_return : List ℕ → List ℕ
without_return line = without_last 13 line

-- a `"` opens a quote, or closes the one that is open
abbrev pub is_quoted_after : Bool → ℕ → Bool
is_quoted_after quoted byte = if byte == 34 then not quoted else quoted

-- a `//` begins a comment
abbrev pub begins_comment : List ℕ → Bool
begins_comment [] = false
begins_comment (byte ∷ []) = false
begins_comment (byte ∷ next ∷ rest) = byte == 47 && next == 47

-- the bytes before the first comment outside quotes
abbrev pub uncommented : Bool → List ℕ → List ℕ
uncommented quoted [] = []
uncommented quoted (byte ∷ rest) =
    if not quoted && begins_comment (byte ∷ rest) then []
    else byte ∷ uncommented (is_quoted_after quoted byte) rest

-- what of a line counts
abbrev pub content_of : List ℕ → List ℕ
content_of raw = uncommented false (without_return raw)

-- a quote is open at the end of these bytes
abbrev pub is_unclosed : List ℕ → Bool
is_unclosed bytes = fold is_quoted_after false bytes

-- a blank is a space or a tab
abbrev pub is_blank : ℕ → Bool
is_blank byte = byte == 32 || byte == 9

-- the bytes from the first on that is no blank
abbrev pub without_front_blanks : List ℕ → List ℕ
without_front_blanks [] = []
without_front_blanks (byte ∷ bytes) = if is_blank byte then without_front_blanks bytes else byte ∷ bytes

-- the bytes without the blanks at both ends
abbrev pub trimmed : List ℕ → List ℕ
trimmed bytes = reverse (without_front_blanks (reverse (without_front_blanks bytes)))

-- the byte in front of the word that goes on right after it, or as a word of its own
abbrev pub onto_word : ℕ → List ℕ → List (List ℕ) → List (List ℕ)
onto_word byte [] words = (byte ∷ []) ∷ words
onto_word byte (next ∷ rest) words = if is_blank next then (byte ∷ []) ∷ words else onto_first byte words

-- the words: the longest runs of bytes without a blank, in order
abbrev pub words_of : List ℕ → List (List ℕ)
words_of [] = []
words_of (byte ∷ bytes) = if is_blank byte then words_of bytes else onto_word byte bytes (words_of bytes)

-- the first word, empty if there is none
abbrev pub first_word : List ℕ → List ℕ
first_word bytes = before_first is_blank (without_front_blanks bytes)

-- what follows the first word, blanks and all
abbrev pub behind_word : List ℕ → List ℕ
behind_word bytes = drop (position_or_len is_blank (without_front_blanks bytes)) (without_front_blanks bytes)
