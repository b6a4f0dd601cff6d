-- The parts of a text, byte by byte.
use Rattle.std.proofs.Common.{◌≡◌, ℕ, ◌+◌, ◌<◌, Bool, true, false, ◌&&◌, ◌==◌, List, [], ◌∷◌, ◌++◌, length, take, drop, get_or, refl, ap, ◌∙◌, sym, arith, append-nil, append_assoc}
use Rattle.std.specs.Prelude.{not}
use Rattle.std.proofs.lemmas.List.{take_more, drop_more, take_all, drop_all}
use Rattle.moos_text.specs.Lines.{onto_first, is_quoted_after}
use Rattle.moos_text.specs.Pairs.{parts_from, parts_of}

-- the bytes in front of the first of these parts
abbrev pub onto_part : List ℕ → List (List ℕ) → List (List ℕ)
onto_part bytes [] = bytes ∷ []
onto_part bytes (part ∷ parts) = (bytes ++ part) ∷ parts

onto_nothing : (byte : ℕ) (parts : List (List ℕ)) → onto_first byte parts ≡ onto_part [] (onto_first byte parts)
onto_nothing byte [] = refl
onto_nothing byte (part ∷ parts) = refl

begins : (cut : Bool) (byte : ℕ) (rest : List ℕ) → (not false && byte == 35) ≡ cut → parts_of (byte ∷ rest) ≡ onto_part [] (parts_of (byte ∷ rest))
begins true byte rest e = rw e refl
begins false byte rest e = rw e (onto_nothing byte (parts_from (is_quoted_after false byte) rest))

-- at first nothing stands before what is left
pub parts_begin : (text : List ℕ) → parts_of text ≡ onto_part [] (parts_of text)
parts_begin [] = refl
parts_begin (byte ∷ rest) = begins (byte == 35) byte rest refl

onto_more : (bytes : List ℕ) (byte : ℕ) (parts : List (List ℕ)) → onto_part bytes (onto_first byte parts) ≡ onto_part (bytes ++ byte ∷ []) parts
onto_more bytes byte [] = refl
onto_more bytes byte (part ∷ parts) = ap (λ first. first ∷ parts) (sym (append_assoc bytes (byte ∷ []) part))

byte_goes_on : (quoted : Bool) (byte : ℕ) (rest : List ℕ) → (not quoted && byte == 35) ≡ false → parts_from quoted (byte ∷ rest) ≡ onto_first byte (parts_from (is_quoted_after quoted byte) rest)
byte_goes_on quoted byte rest e = rw e refl

-- a byte more of the first part
pub part_more : (text : List ℕ) (i : ℕ) (quoted : Bool) → i < length text → (not quoted && get_or text i 0 == 35) ≡ false → parts_of text ≡ onto_part (take i text) (parts_from quoted (drop i text)) → parts_of text ≡ onto_part (take (i + 1) text) (parts_from (is_quoted_after quoted (get_or text i 0)) (drop (i + 1) text))
part_more text i quoted within e parts =
    let further : List (List ℕ) = parts_from (is_quoted_after quoted (get_or text i 0)) (drop (i + 1) text) in
    parts ∙ ap (λ rest. onto_part (take i text) (parts_from quoted rest)) (drop_more text i 0 within)
    ∙ ap (λ more. onto_part (take i text) more) (byte_goes_on quoted (get_or text i 0) (drop (i + 1) text) e)
    ∙ onto_more (take i text) (get_or text i 0) further ∙ ap (λ front. onto_part front further) (sym (take_more text i 0 within))

-- a `#` outside quotes ends it
pub part_ends : (text : List ℕ) (i : ℕ) → i < length text → get_or text i 0 ≡ 35 → parts_of text ≡ onto_part (take i text) (parts_from false (drop i text)) → parts_of text ≡ take i text ∷ parts_of (drop (i + 1) text)
part_ends text i within sharp parts =
    parts ∙ ap (λ rest. onto_part (take i text) (parts_from false rest)) (drop_more text i 0 within)
    ∙ ap (λ byte. onto_part (take i text) (parts_from false (byte ∷ drop (i + 1) text))) sharp
    ∙ ap (λ front. front ∷ parts_of (drop (i + 1) text)) (append-nil (take i text))

-- and so does the end of the text
pub last_ends : (text : List ℕ) (i : ℕ) (quoted : Bool) → length text ≡ i → parts_of text ≡ onto_part (take i text) (parts_from quoted (drop i text)) → parts_of text ≡ text ∷ []
last_ends text i quoted whole parts =
    parts ∙ ap (λ rest. onto_part (take i text) (parts_from quoted rest)) (drop_all i text (omega (arith, whole)))
    ∙ ap (λ front. front ∷ []) (append-nil (take i text) ∙ take_all i text (omega (arith, whole)))
