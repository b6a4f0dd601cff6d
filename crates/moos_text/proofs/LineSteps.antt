-- Lines one after another, and what of a line counts byte by byte.
use Rattle.std.proofs.Common.{◌≡◌, ℕ, suc, ◌+◌, ◌<◌, ◌≤◌, Bool, true, false, ◌&&◌, ◌==◌, List, [], ◌∷◌, ◌++◌, length, take, drop, get_or, refl, ap, ◌∙◌, sym, arith, one-add, add-one, append-nil, append_assoc}
use Rattle.std.specs.Prelude.{not}
use Rattle.std.proofs.Math.ListN.{drop_of_length-le}
use Rattle.std.proofs.lemmas.List.Folds.{length-prefix_len}
use Rattle.std.specs.List.{after_first, position_or_len}
use Rattle.std.proofs.lemmas.List.{take_more, drop_more, drop-drop, length-drop}
use Rattle.std.proofs.lemmas.List.Sums.{prefix_len-le-length}
use Rattle.moos_text.specs.Lines.{raw_lines, onto_first, first_line, begins_comment, is_quoted_after, uncommented}

-- the lines of a file that isn't empty: its first, and those behind the first line feed
split_line : (feeds : Bool) (byte : ℕ) (rest : List ℕ) → (byte == 10) ≡ feeds → raw_lines (byte ∷ rest) ≡ first_line (byte ∷ rest) ∷ raw_lines (after_first (λ b. b == 10) (byte ∷ rest))
split_line true byte rest e = rw e refl
split_line false byte [] e = rw e refl
split_line false byte (next ∷ rest) e =
    let further = split_line (next == 10) next rest refl in
    let place : position_or_len (λ b. b == 10) (byte ∷ next ∷ rest) ≡ suc (position_or_len (λ b. b == 10) (next ∷ rest)) = rw e (one-add _) in
    let front : first_line (byte ∷ next ∷ rest) ≡ byte ∷ first_line (next ∷ rest) = ap (λ i. take i (byte ∷ next ∷ rest)) place in
    let back : after_first (λ b. b == 10) (byte ∷ next ∷ rest) ≡ after_first (λ b. b == 10) (next ∷ rest) =
    ap (λ i. drop i (byte ∷ next ∷ rest)) (ap (λ i. i + 1) place ∙ add-one _) ∙ ap (λ i. drop i (next ∷ rest)) (sym (add-one _)) in
    let onto : raw_lines (byte ∷ next ∷ rest) ≡ onto_first byte (raw_lines (next ∷ rest)) = rw e refl in
    onto ∙ ap (λ lines. onto_first byte lines) further
    ∙ ap (λ line. line ∷ raw_lines (after_first (λ b. b == 10) (next ∷ rest))) (sym front) ∙ ap (λ after. first_line (byte ∷ next ∷ rest) ∷ raw_lines after) (sym back)

-- the same at a place of a file
pub line_at : (bytes : List ℕ) → 0 < length bytes → raw_lines bytes ≡ first_line bytes ∷ raw_lines (after_first (λ b. b == 10) bytes)
line_at [] some = absurd (omega arith)
line_at (byte ∷ rest) some = split_line (byte == 10) byte rest refl

comment_ends : (text : List ℕ) → begins_comment text ≡ true → uncommented false text ≡ []
comment_ends [] comment = refl
comment_ends (byte ∷ rest) comment = rw comment refl

-- a comment at this place
pub without_comment : (line : List ℕ) (i : ℕ) → uncommented false line ≡ take i line ++ uncommented false (drop i line) → begins_comment (drop i line) ≡ true → uncommented false line ≡ take i line
without_comment line i counts comment = counts ∙ ap (λ text. take i line ++ text) (comment_ends (drop i line) comment) ∙ append-nil (take i line)

byte_counts : (quoted : Bool) (byte : ℕ) (rest : List ℕ) → (not quoted && begins_comment (byte ∷ rest)) ≡ false → uncommented quoted (byte ∷ rest) ≡ byte ∷ uncommented (is_quoted_after quoted byte) rest
byte_counts quoted byte rest none = rw none refl

-- no comment at this place
pub byte_more : (line : List ℕ) (i : ℕ) (quoted : Bool) → i < length line → (not quoted && begins_comment (drop i line)) ≡ false → uncommented false line ≡ take i line ++ uncommented quoted (drop i line) → uncommented false line ≡ take (i + 1) line ++ uncommented (is_quoted_after quoted (get_or line i 0)) (drop (i + 1) line)
byte_more line i quoted within none counts =
    let here : drop i line ≡ get_or line i 0 ∷ drop (i + 1) line = drop_more line i 0 within in
    let rest : List ℕ = uncommented (is_quoted_after quoted (get_or line i 0)) (drop (i + 1) line) in
    counts ∙ ap (λ text. take i line ++ uncommented quoted text) here
    ∙ ap (λ text. take i line ++ text) (byte_counts quoted (get_or line i 0) (drop (i + 1) line) (ap (λ text. not quoted && begins_comment text) (sym here) ∙ none))
    ∙ sym (append_assoc (take i line) (get_or line i 0 ∷ []) rest) ∙ ap (λ text. text ++ rest) (sym (take_more line i 0 within))

-- the first line feed, or the end, stands within the bytes
pub line_end_within : (bytes : List ℕ) → position_or_len (λ byte. byte == 10) bytes ≤ length bytes
line_end_within bytes = prefix_len-le-length (λ byte. not (byte == 10)) bytes

-- the lines from a place on: the line there, and those from the next line on
pub lines_at : (bytes : List ℕ) (from : ℕ) → from < length bytes → raw_lines (drop from bytes) ≡ first_line (drop from bytes) ∷ raw_lines (drop (from + length (first_line (drop from bytes)) + 1) bytes)
lines_at bytes from within =
    let rest : List ℕ = drop from bytes in
    let place : ℕ = position_or_len (λ byte. byte == 10) rest in
    let long : length (first_line rest) ≡ place = length-prefix_len (λ byte. not (byte == 10)) rest in
    line_at rest (omega (arith, length-drop from bytes))
    ∙ ap (λ after. first_line rest ∷ raw_lines after) (drop-drop (place + 1) from bytes ∙ ap (λ i. drop i bytes) (omega (arith, long)))

-- and where no line feed ends the line
pub last_line_at : (bytes : List ℕ) (from : ℕ) → from < length bytes → length bytes ≤ from + length (first_line (drop from bytes)) → raw_lines (drop from bytes) ≡ first_line (drop from bytes) ∷ raw_lines (drop (length bytes) bytes)
last_line_at bytes from within last =
    lines_at bytes from within ∙ ap (λ rest. first_line (drop from bytes) ∷ raw_lines rest) (drop_of_length-le bytes {i = from + length (first_line (drop from bytes)) + 1} (omega arith) ∙ sym (drop_of_length-le bytes {i = length bytes} (omega arith)))

-- the lines of a text by its first one, which has so many bytes
pub lines_behind : (text : List ℕ) (len : ℕ) → 0 < length text → len ≡ length (first_line text) → raw_lines text ≡ first_line text ∷ raw_lines (drop (len + 1) text)
lines_behind text len some long = lines_at text 0 some ∙ ap (λ i. first_line text ∷ raw_lines (drop i text)) (omega arith)
