-- The lines of a printed decision, as words with a blank between.
use Rattle.std.proofs.Common.{◌≡◌, ℕ, ◌*◌, List, [], ◌∷◌, ◌++◌, flat_map, map, take, refl, ap, sym, ◌∙◌, append_assoc, append-nil}
use Rattle.std.specs.Prelude.{ℤ, codes, decimal}
use Rattle.std.specs.Fmt.{signed_decimal}
use Rattle.std.specs.List.{concat}
use Rattle.std.proofs.lemmas.Grind.{flat_map-append}
use Rattle.moos_text.specs.Numbers.{unsigned_text}
use Rattle.ivp_func.specs.declared.piece.Piece.{Piece}
use Rattle.ivp_cert.specs.declared.cert.Line.{Line}
use Rattle.ivp_cert.specs.declared.claim.Claim.{Claim}
use Rattle.ivp_cert.specs.Texts.{claim_text, ends_of, integer_word, line_text, number_word, piece_text}
use Rattle.ivp_cert.proofs.PrintedLines.{line_of, spaced}
use Rattle.ivp_cert.proofs.PrintedPieces.{piece_words}

-- numbers behind blanks are words behind blanks
numbers_text : (numbers : List ℕ) → flat_map number_word numbers ≡ flat_map spaced (map decimal numbers)
numbers_text [] = refl
numbers_text (number ∷ numbers) = rw (append-nil (decimal number), numbers_text numbers) refl

integers_text : (numbers : List ℤ) → flat_map integer_word numbers ≡ flat_map spaced (map signed_decimal numbers)
integers_text [] = refl
integers_text (number ∷ numbers) = rw (append-nil (signed_decimal number), integers_text numbers) refl

-- words, one word more and words behind it, up to the end of the line
ended_words : (front back : List (List ℕ)) (word end : List ℕ) → flat_map spaced front ++ (spaced word ++ (flat_map spaced back ++ end)) ≡ flat_map spaced (front ++ word ∷ back) ++ end
ended_words front back word end =
    sym (ap (λ t. t ++ end) (flat_map-append spaced front (word ∷ back)) ∙ append_assoc (flat_map spaced front) (spaced word ++ flat_map spaced back) end ∙ ap (λ t. flat_map spaced front ++ t) (append_assoc (spaced word) (flat_map spaced back) end))

pub piece_line : (prefix : List ℕ) (axes : ℕ) (piece : Piece) → piece_text prefix axes piece ≡ line_of prefix (codes "piece") (piece_words axes piece)
piece_line prefix axes piece =
    let ends = take (2 * axes) (ends_of piece.area) in
    let slopes = take axes piece.slope in
    let tail : flat_map number_word ends ++ (integer_word piece.base ++ (flat_map integer_word slopes ++ 10 ∷ [])) ≡ flat_map spaced (piece_words axes piece) ++ 10 ∷ [] =
    rw (numbers_text ends, integers_text slopes, append-nil (signed_decimal piece.base)) (ended_words (map decimal ends) (map signed_decimal slopes) (signed_decimal piece.base) (10 ∷ [])) in
    append_assoc prefix (codes "piece") _ ∙ ap (λ t. prefix ++ (codes "piece" ++ t)) tail

pub function_line : (prefix : List ℕ) (weight : ℕ) → concat (prefix ∷ codes "function " ∷ unsigned_text weight ∷ codes "\n" ∷ []) ≡ line_of prefix (codes "function") (unsigned_text weight ∷ [])
function_line prefix weight = ap (λ t. prefix ++ (codes "function " ++ (t ++ 10 ∷ []))) (sym (append-nil (unsigned_text weight)))

-- the words of what was decided, and of a line of the certificate
abbrev pub claim_words : ℕ → Claim → List (List ℕ)
claim_words axes claim = map decimal (take axes claim.point.at) ++ unsigned_text claim.sum ∷ []

pub claim_line : (prefix : List ℕ) (axes : ℕ) (claim : Claim) → claim_text prefix axes claim ≡ line_of prefix (codes "decision") (claim_words axes claim)
claim_line prefix axes claim =
    let places = take axes claim.point.at in
    let tail : flat_map number_word places ++ (32 ∷ (unsigned_text claim.sum ++ 10 ∷ [])) ≡ flat_map spaced (claim_words axes claim) ++ 10 ∷ [] =
    rw (numbers_text places) (ended_words (map decimal places) [] (unsigned_text claim.sum) (10 ∷ [])) in
    append_assoc prefix (codes "decision") _ ∙ ap (λ t. prefix ++ (codes "decision" ++ t)) tail

abbrev pub cut_words : Line → List (List ℕ)
cut_words line = map decimal line.path ++ codes ":" ∷ unsigned_text line.sum ∷ decimal line.index ∷ []

pub cut_line : (prefix : List ℕ) (line : Line) → line_text prefix line ≡ line_of prefix (codes "cut") (cut_words line)
cut_line prefix line =
    let bound : 32 ∷ (unsigned_text line.sum ++ 32 ∷ (decimal line.index ++ 10 ∷ [])) ≡ flat_map spaced (unsigned_text line.sum ∷ decimal line.index ∷ []) ++ 10 ∷ [] =
    ap (λ t. 32 ∷ t) (sym (append_assoc (unsigned_text line.sum) (32 ∷ (decimal line.index ++ [])) (10 ∷ []) ∙ ap (λ t. unsigned_text line.sum ++ 32 ∷ t) (append_assoc (decimal line.index) [] (10 ∷ [])))) in
    let tail : flat_map number_word line.path ++ (32 ∷ 58 ∷ 32 ∷ (unsigned_text line.sum ++ 32 ∷ (decimal line.index ++ 10 ∷ []))) ≡ flat_map spaced (cut_words line) ++ 10 ∷ [] =
    ap (λ t. t ++ (32 ∷ 58 ∷ 32 ∷ (unsigned_text line.sum ++ 32 ∷ (decimal line.index ++ 10 ∷ [])))) (numbers_text line.path)
    ∙ ap (λ t. flat_map spaced (map decimal line.path) ++ (32 ∷ 58 ∷ t)) bound
    ∙ ended_words (map decimal line.path) (unsigned_text line.sum ∷ decimal line.index ∷ []) (codes ":") (10 ∷ []) in
    append_assoc prefix (codes "cut") _ ∙ ap (λ t. prefix ++ (codes "cut" ++ t)) tail
