-- Where the first word of a text stands: behind the blanks in front, up to the next blank.
use Rattle.std.proofs.Common.{◌≡◌, ℕ, suc, ◌+◌, ◌<◌, ◌≤◌, Bool, true, false, cond, not, nat_lt, List, [], ◌∷◌, length, take, drop, Some, None, refl, sym, ap, subst, ◌∙◌, arith}
use Rattle.std.proofs.Math.Numerals.{one-add}
use Rattle.std.specs.List.{position, position_or_len}
use Rattle.std.specs.Option.{unwrap_or}
use Rattle.std.proofs.lemmas.List.{nil_from_length}
use Rattle.std.proofs.lemmas.List.Sums.{prefix_len-le-length}
use Rattle.moos_text.specs.Lines.{is_blank, onto_first, onto_word, words_of, without_front_blanks, first_word, behind_word}

-- the place that `position` gives, and the length where it gives none
pub position_or_len_of : {X : Type 0} (p : X → Bool) (xs : List X) → unwrap_or (position p xs) (length xs) ≡ position_or_len p xs
position_or_len_of p xs = at (nat_lt (position_or_len p xs) (length xs)) refl
  where
    at : (b : Bool) → nat_lt (position_or_len p xs) (length xs) ≡ b → unwrap_or (cond b (Some (position_or_len p xs)) None) (length xs) ≡ position_or_len p xs
    at true h = refl
    at false h = grind (arith, prefix_len-le-length (λ x. not (p x)) xs)

pub position_or_len-le-length : {X : Type 0} (p : X → Bool) (xs : List X) → position_or_len p xs ≤ length xs
position_or_len-le-length p xs = prefix_len-le-length (λ x. not (p x)) xs

-- a text without blanks in front, and the word that it begins with
abbrev pub BeginsWithWord : List ℕ → Type 0
BeginsWithWord text = words_of text ≡ take (position_or_len is_blank text) text ∷ words_of (drop (position_or_len is_blank text) text)

begins_at : (n : ℕ) (text : List ℕ) → position_or_len is_blank text ≡ n → words_of text ≡ take n text ∷ words_of (drop n text) → BeginsWithWord text
begins_at n text place words = subst (λ m. words_of text ≡ take m text ∷ words_of (drop m text)) (sym place) words

-- the words, what stands behind the blanks in front and the place of the first blank, with one byte more in front
words_of-cons : (b : Bool) (byte : ℕ) (bytes : List ℕ) → is_blank byte ≡ b → words_of (byte ∷ bytes) ≡ cond b (words_of bytes) (onto_word byte bytes (words_of bytes))
words_of-cons b byte bytes h = ap (λ c. cond c (words_of bytes) (onto_word byte bytes (words_of bytes))) h

blank-cons : (b : Bool) (byte : ℕ) (bytes : List ℕ) → is_blank byte ≡ b → position_or_len is_blank (byte ∷ bytes) ≡ cond b 0 (suc (position_or_len is_blank bytes))
blank-cons true byte bytes h = ap (λ c. cond (not c) (1 + position_or_len is_blank bytes) 0) h
blank-cons false byte bytes h = ap (λ c. cond (not c) (1 + position_or_len is_blank bytes) 0) h ∙ one-add (position_or_len is_blank bytes)

found-cons : (b : Bool) (byte : ℕ) (bytes : List ℕ) → is_blank byte ≡ b → without_front_blanks (byte ∷ bytes) ≡ cond b (without_front_blanks bytes) (byte ∷ bytes)
found-cons b byte bytes h = ap (λ c. cond c (without_front_blanks bytes) (byte ∷ bytes)) h

onto_word-next : (b : Bool) (byte next : ℕ) (rest : List ℕ) (words : List (List ℕ)) → is_blank next ≡ b → onto_word byte (next ∷ rest) words ≡ cond b ((byte ∷ []) ∷ words) (onto_first byte words)
onto_word-next b byte next rest words h = ap (λ c. cond c ((byte ∷ []) ∷ words) (onto_first byte words)) h

begins-word : (byte : ℕ) (bytes : List ℕ) → is_blank byte ≡ false → BeginsWithWord (byte ∷ bytes)
begins-word byte [] h = begins_at 1 (byte ∷ []) (blank-cons false byte [] h) (words_of-cons false byte [] h)
begins-word byte (next ∷ rest) h = at (is_blank next) refl (begins-word next rest)
  where
    at : (b : Bool) → is_blank next ≡ b → (is_blank next ≡ false → BeginsWithWord (next ∷ rest)) → BeginsWithWord (byte ∷ next ∷ rest)
    at true g later =
        begins_at 1 (byte ∷ next ∷ rest) (blank-cons false byte (next ∷ rest) h ∙ ap suc (blank-cons true next rest g))
        (words_of-cons false byte (next ∷ rest) h ∙ onto_word-next true byte next rest (words_of (next ∷ rest)) g)
    at false g later =
        begins_at (suc (position_or_len is_blank (next ∷ rest))) (byte ∷ next ∷ rest) (blank-cons false byte (next ∷ rest) h)
        (words_of-cons false byte (next ∷ rest) h ∙ onto_word-next false byte next rest (words_of (next ∷ rest)) g
        ∙ ap (onto_first byte) (later g))

-- the words of a text are those of what stands behind the blanks in front
pub words_of-found : (text : List ℕ) → words_of text ≡ words_of (without_front_blanks text)
words_of-found [] = refl
words_of-found (byte ∷ bytes) = at (is_blank byte) refl (words_of-found bytes)
  where
    at : (b : Bool) → is_blank byte ≡ b → words_of bytes ≡ words_of (without_front_blanks bytes) → words_of (byte ∷ bytes) ≡ words_of (without_front_blanks (byte ∷ bytes))
    at true h same = words_of-cons true byte bytes h ∙ same ∙ ap words_of (sym (found-cons true byte bytes h))
    at false h same = ap words_of (sym (found-cons false byte bytes h))

-- that begins with a word, unless it is empty
pub found-begins : (text : List ℕ) → 0 < length (without_front_blanks text) → BeginsWithWord (without_front_blanks text)
found-begins [] some = absurd (omega arith)
found-begins (byte ∷ bytes) some = at (is_blank byte) refl some (found-begins bytes)
  where
    at : (b : Bool) → is_blank byte ≡ b → 0 < length (without_front_blanks (byte ∷ bytes)) → (0 < length (without_front_blanks bytes) → BeginsWithWord (without_front_blanks bytes)) → BeginsWithWord (without_front_blanks (byte ∷ bytes))
    at true h some rest =
        let same : without_front_blanks (byte ∷ bytes) ≡ without_front_blanks bytes = found-cons true byte bytes h in
        subst BeginsWithWord (sym same) (rest (subst (λ xs. 0 < length xs) same some))
    at false h some rest = subst BeginsWithWord (sym (found-cons false byte bytes h)) (begins-word byte bytes h)

-- no word stands in a text of blanks
pub no_word : (text found : List ℕ) → found ≡ without_front_blanks text → length found ≡ 0 → words_of text ≡ []
no_word text found is none = words_of-found text ∙ ap words_of (sym is ∙ nil_from_length found none)

-- where something stands behind the blanks in front, a word begins there
pub begins_word : (text found : List ℕ) → found ≡ without_front_blanks text → 0 < length found → words_of text ≡ take (position_or_len is_blank found) found ∷ words_of (drop (position_or_len is_blank found) found)
begins_word text found is some =
    words_of-found text ∙ ap words_of (sym is) ∙ subst BeginsWithWord (sym is) (found-begins text (subst (λ xs. 0 < length xs) is some))

-- then there is no first word, and nothing stands behind it
pub no_word_split : (text found : List ℕ) → found ≡ without_front_blanks text → length found ≡ 0 → (first_word text ≡ []) × (behind_word text ≡ [])
no_word_split text found is none =
    let nothing : without_front_blanks text ≡ [] = sym is ∙ nil_from_length found none in (
      ap (λ bytes. take (position_or_len is_blank bytes) bytes) nothing,
      ap (λ bytes. drop (position_or_len is_blank bytes) bytes) nothing,
    )
