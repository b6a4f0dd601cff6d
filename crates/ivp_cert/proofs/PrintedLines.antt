-- A printed line: words of visible bytes with one blank between, behind nothing or `%% `. Reading it gives its words back.
use Rattle.std.proofs.Common.{◌≡◌, ℕ, suc, ◌<◌, ◌≤◌, inl, inr, Bool, true, false, List, [], ◌∷◌, ◌++◌, length, reverse, flat_map, refl, ap, sym, ◌∙◌, arith, append_assoc, append-nil}
use Rattle.std.specs.Prelude.{if◌then◌else◌}
use Rattle.std.specs.List.{AllByRecursion as Each}
use Rattle.std.proofs.lemmas.Bool.{ne_eqb}
use Rattle.std.proofs.lemmas.List.{reverse-append, reverse-reverse}
use Rattle.moos_io.proofs.Lists.{each_append, each_weaker}
use Rattle.moos_text.specs.Lines.{is_blank, onto_first, raw_lines, trimmed, without_front_blanks, without_return, words_of}
use Rattle.ivp_cert.specs.Printed.{IsPrefix}
use Rattle.moos_text.specs.Refusals.{and_then}
use Rattle.ivp_cert.specs.Words.{line_words, without_prefix}
use Rattle.ivp_cert.proofs.Reading.{After, after_lines}

-- at least one byte, and each is visible
pub record IsWord (word : List ℕ) : Type 0 where
  pub some : 0 < length word
  pub ink : Each (λ byte. 33 ≤ byte) word

-- a word behind a blank
abbrev pub spaced : List ℕ → List ℕ
spaced word = 32 ∷ word

-- words with one blank between
abbrev pub joined : List ℕ → List (List ℕ) → List ℕ
joined word words = word ++ flat_map spaced words

-- a line of such words
abbrev pub line_of : List ℕ → List ℕ → List (List ℕ) → List ℕ
line_of prefix word words = prefix ++ (joined word words ++ 10 ∷ [])

seen : (byte : ℕ) → 33 ≤ byte → is_blank byte ≡ false
seen byte h = rw (ne_eqb byte 32 (λ same. omega arith), ne_eqb byte 9 (λ same. omega arith)) refl

-- the first line ends at the first line feed
pub line_in_front : (text rest : List ℕ) → Each (λ byte. 32 ≤ byte) text → raw_lines (text ++ 10 ∷ rest) ≡ text ∷ raw_lines rest
line_in_front [] rest h = refl
line_in_front (byte ∷ text) rest h = rw (ne_eqb byte 10 (λ same. omega (arith, h.0)), line_in_front text rest h.1) refl

-- a word ends at a blank, or at the end
abbrev BeginsBlank : List ℕ → Type 0
BeginsBlank [] = Unit {0}
BeginsBlank (byte ∷ rest) = is_blank byte ≡ true

word_front : (word rest : List ℕ) → 0 < length word → Each (λ byte. 33 ≤ byte) word → BeginsBlank rest → words_of (word ++ rest) ≡ word ∷ words_of rest
word_front [] rest some ink begins = absurd (omega (arith, some))
word_front (byte ∷ []) [] some ink begins = rw (seen byte ink.0) refl
word_front (byte ∷ []) (next ∷ rest) some ink begins = rw (seen byte ink.0, begins) refl
word_front (byte ∷ next ∷ word) rest some ink begins =
    let more : words_of (next ∷ (word ++ rest)) ≡ (next ∷ word) ∷ words_of rest = word_front (next ∷ word) rest (omega arith) ink.1 begins in
    by (is_blank byte) (is_blank next) (seen byte ink.0) (seen next ink.1.0) (words_of (next ∷ (word ++ rest))) more
  where
    by : (b c : Bool) → b ≡ false → c ≡ false → (words : List (List ℕ)) → words ≡ (next ∷ word) ∷ words_of rest → (if b then words else if c then (byte ∷ []) ∷ words else onto_first byte words) ≡ (byte ∷ next ∷ word) ∷ words_of rest
    by b c e f words g = rw (e, f, g) refl

pub words_back : (word : List ℕ) (words : List (List ℕ)) → IsWord word → Each IsWord words → words_of (joined word words) ≡ word ∷ words
words_back word [] is all = word_front word [] is.some is.ink tt
words_back word (next ∷ words) is all = word_front word (flat_map spaced (next ∷ words)) is.some is.ink refl ∙ ap (λ ws. word ∷ ws) (words_back next words all.0 all.1)

-- the last byte is visible
record EndsInk (text : List ℕ) : Type 0 where
  pub front : List ℕ
  pub last : ℕ
  pub split : text ≡ front ++ last ∷ []
  pub ink : 33 ≤ last

ends_behind : (front text : List ℕ) → EndsInk text → EndsInk (front ++ text)
ends_behind front text ends = record { front = front ++ ends.front; last = ends.last; split = ap (λ t. front ++ t) ends.split ∙ sym (append_assoc front ends.front (ends.last ∷ [])); ink = ends.ink }

ends_word : (word : List ℕ) → 0 < length word → Each (λ byte. 33 ≤ byte) word → EndsInk word
ends_word [] some ink = absurd (omega (arith, some))
ends_word (byte ∷ []) some ink = record { front = []; last = byte; split = refl; ink = ink.0 }
ends_word (byte ∷ next ∷ word) some ink = ends_behind (byte ∷ []) (next ∷ word) (ends_word (next ∷ word) (omega arith) ink.1)

ends_joined : (word : List ℕ) (words : List (List ℕ)) → IsWord word → Each IsWord words → EndsInk (joined word words)
ends_joined word [] is all =
    let ends = ends_word word is.some is.ink in
    record { front = ends.front; last = ends.last; split = append-nil word ∙ ends.split; ink = ends.ink }
ends_joined word (next ∷ words) is all = ends_behind word (flat_map spaced (next ∷ words)) (ends_behind (32 ∷ []) (joined next words) (ends_joined next words all.0 all.1))

-- such a text has no carriage return at its end, and no blank at either end
no_return : (front : List ℕ) (last : ℕ) → 33 ≤ last → without_return (front ++ last ∷ []) ≡ front ++ last ∷ []
no_return [] last ink = rw (ne_eqb last 13 (λ same. omega arith)) refl
no_return (byte ∷ []) last ink = ap (λ t. byte ∷ t) (no_return [] last ink)
no_return (byte ∷ next ∷ front) last ink = ap (λ t. byte ∷ t) (no_return (next ∷ front) last ink)

no_blanks : (first : ℕ) (rest front : List ℕ) (last : ℕ) → 33 ≤ first → 33 ≤ last → first ∷ rest ≡ front ++ last ∷ [] → trimmed (first ∷ rest) ≡ first ∷ rest
no_blanks first rest front last begins ends split =
    let kept : without_front_blanks (first ∷ rest) ≡ first ∷ rest = rw (seen first begins) refl in
    let turned : reverse (first ∷ rest) ≡ last ∷ reverse front = ap reverse split ∙ reverse-append front (last ∷ []) in
    let kept' : without_front_blanks (last ∷ reverse front) ≡ last ∷ reverse front = rw (seen last ends) refl in
    ap (λ t. reverse (without_front_blanks (reverse t))) kept ∙ ap (λ t. reverse (without_front_blanks t)) turned ∙ ap reverse (kept' ∙ sym turned) ∙ reverse-reverse (first ∷ rest)

plain : (first : ℕ) (rest : List ℕ) → 33 ≤ first → EndsInk (first ∷ rest) → trimmed (without_return (first ∷ rest)) ≡ first ∷ rest
plain first rest begins ends =
    ap (λ t. trimmed (without_return t)) ends.split ∙ ap trimmed (no_return ends.front ends.last ends.ink ∙ sym ends.split) ∙ no_blanks first rest ends.front ends.last begins ends.ink ends.split

no_prefix : (first : ℕ) (rest : List ℕ) → 38 ≤ first → without_prefix (first ∷ rest) ≡ first ∷ rest
no_prefix first rest h = let not_percent = ne_eqb first 37 (λ same. omega arith) in rw not_percent refl

-- the words of a printed line
pub said : (prefix : List ℕ) (first : ℕ) (word : List ℕ) (words : List (List ℕ)) → IsPrefix prefix → 38 ≤ first → IsWord (first ∷ word) → Each IsWord words → line_words (prefix ++ joined (first ∷ word) words) ≡ (first ∷ word) ∷ words
said prefix first word words (inl none) letter is all =
    let text = word ++ flat_map spaced words in
    ap (λ p. line_words (p ++ joined (first ∷ word) words)) none
    ∙ ap (λ t. words_of (without_prefix t)) (plain first text (omega (arith, letter)) (ends_joined (first ∷ word) words is all))
    ∙ ap words_of (no_prefix first text letter) ∙ words_back (first ∷ word) words is all
said prefix first word words (inr some) letter is all =
    let text = first ∷ (word ++ flat_map spaced words) in
    ap (λ p. line_words (p ++ text)) some
    ∙ ap (λ t. words_of (without_prefix t)) (plain 37 (37 ∷ 32 ∷ text) (omega arith) (ends_behind (37 ∷ 37 ∷ 32 ∷ []) text (ends_joined (first ∷ word) words is all)))
    ∙ words_back (first ∷ word) words is all

-- no byte of it ends the line
shown_word : (word : List ℕ) → Each (λ byte. 33 ≤ byte) word → Each (λ byte. 32 ≤ byte) word
shown_word word ink = each_weaker (λ byte. 33 ≤ byte) (λ byte. 32 ≤ byte) (λ byte seen. omega (arith, seen)) word ink

shown_both : (xs ys : List ℕ) → Each (λ byte. 32 ≤ byte) xs → Each (λ byte. 32 ≤ byte) ys → Each (λ byte. 32 ≤ byte) (xs ++ ys)
shown_both xs ys h k = each_append (λ byte. 32 ≤ byte) xs ys h k

shown_words : (words : List (List ℕ)) → Each IsWord words → Each (λ byte. 32 ≤ byte) (flat_map spaced words)
shown_words [] all = tt
shown_words (word ∷ words) all = shown_both (32 ∷ word) (flat_map spaced words) (omega arith, shown_word word all.0.ink) (shown_words words all.1)

shown_prefix : (prefix : List ℕ) → IsPrefix prefix → Each (λ byte. 32 ≤ byte) prefix
shown_prefix prefix (inl none) = rw none tt
shown_prefix prefix (inr some) = rw some (omega arith, (omega arith, (omega arith, tt)))

-- one printed line more is taken by its words
pub line_taken : {S : Type 0} (after : After S) (lines : ℕ) (state : S) (prefix : List ℕ) (first : ℕ) (word : List ℕ) (words : List (List ℕ)) (rest : List ℕ) → IsPrefix prefix → 38 ≤ first → IsWord (first ∷ word) → Each IsWord words → after_lines after lines state (raw_lines (line_of prefix (first ∷ word) words ++ rest)) ≡ and_then (λ next. after_lines after (suc lines) next (raw_lines rest)) (after (suc lines) state ((first ∷ word) ∷ words))
line_taken after lines state prefix first word words rest at letter is all =
    let text = joined (first ∷ word) words in
    let whole : line_of prefix (first ∷ word) words ++ rest ≡ (prefix ++ text) ++ 10 ∷ rest =
    append_assoc prefix (text ++ 10 ∷ []) rest ∙ ap (λ t. prefix ++ t) (append_assoc text (10 ∷ []) rest) ∙ sym (append_assoc prefix text (10 ∷ rest)) in
    let shown = shown_both prefix text (shown_prefix prefix at) (shown_both (first ∷ word) (flat_map spaced words) (shown_word (first ∷ word) is.ink) (shown_words words all)) in
    ap (λ t. after_lines after lines state (raw_lines t)) whole
    ∙ ap (after_lines after lines state) (line_in_front (prefix ++ text) rest shown)
    ∙ ap (λ ws. and_then (λ next. after_lines after (suc lines) next (raw_lines rest)) (after (suc lines) state ws)) (said prefix first word words at letter is all)
