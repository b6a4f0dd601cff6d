-- The first token of a text, and what stands behind it.
use Rattle.std.proofs.Common.{◌≡◌, ◌≢◌, ℕ, suc, ◌+◌, ◌-◌, ◌<◌, ◌≤◌, Bool, true, false, cond, not, ◌||◌, ◌==◌, List, [], ◌∷◌, length, take, drop, length-drop, refl, sym, ap, subst, ◌∙◌, arith}
use Rattle.std.proofs.Math.Numerals.{one-add}
use Rattle.std.specs.Prelude.{if◌then◌else◌, slice_index}
use Rattle.std.specs.List.{position_or_len}
use Rattle.std.proofs.lemmas.Bool.Decides.{nat_tests}
use Rattle.std.proofs.lemmas.List.{nil_from_length, take_all}
use Rattle.moos_text.proofs.WordLemmas.{position_or_len-le-length}
use Rattle.moos_text.specs.Lines.{is_blank, without_front_blanks}
use Rattle.moos_text.specs.Pairs.{is_quote}
use Rattle.helm_cond.specs.Grammar.{Token, Opening, Closing, Sign, Quoted, Unclosed, Word, is_operator_byte, is_plain, first_passes, onto_token, with_plain, tokens_from, tokens_of}

-- a byte that opens no quote
plain_cons : (byte : ℕ) (bytes : List ℕ) → is_quote byte ≡ false → tokens_of (byte ∷ bytes) ≡ with_plain byte bytes (tokens_of bytes)
plain_cons byte bytes h = ap (λ quote. with_plain byte bytes (tokens_from (if quote then true else false) bytes)) h

blank_quote : (byte : ℕ) → is_blank byte ≡ true → is_quote byte ≡ false
blank_quote byte blank = grind (arith, nat_tests)

found-cons : (b : Bool) (byte : ℕ) (bytes : List ℕ) → is_blank byte ≡ b → without_front_blanks (byte ∷ bytes) ≡ cond b (without_front_blanks bytes) (byte ∷ bytes)
found-cons b byte bytes h = ap (λ c. cond c (without_front_blanks bytes) (byte ∷ bytes)) h

-- with_plain, by its tests
abbrev chosen : ℕ → List ℕ → List Token → Bool → Bool → Bool → Bool → List Token
chosen byte bytes tokens skipped opening closing sign =
    if skipped then tokens
    else if opening then Opening ∷ tokens
    else if closing then Closing ∷ tokens
    else if sign then if first_passes is_operator_byte bytes then onto_token byte tokens else Sign (byte ∷ []) ∷ tokens
    else if first_passes is_plain bytes then onto_token byte tokens
    else Word (byte ∷ []) ∷ tokens

chosen_by : (byte : ℕ) (bytes : List ℕ) (tokens : List Token) (a b c d : Bool) → (is_blank byte || is_quote byte) ≡ a → (byte == 40) ≡ b → (byte == 41) ≡ c → is_operator_byte byte ≡ d →
    with_plain byte bytes tokens ≡ chosen byte bytes tokens a b c d
chosen_by byte bytes tokens a b c d ha hb hc hd =
    ap (λ x. chosen byte bytes tokens x (byte == 40) (byte == 41) (is_operator_byte byte)) ha
    ∙ ap (λ x. chosen byte bytes tokens a x (byte == 41) (is_operator_byte byte)) hb
    ∙ ap (λ x. chosen byte bytes tokens a b x (is_operator_byte byte)) hc
    ∙ ap (λ x. chosen byte bytes tokens a b c x) hd

-- blanks in front are no token's
pub tokens_of-found : (text : List ℕ) → tokens_of text ≡ tokens_of (without_front_blanks text)
tokens_of-found [] = refl
tokens_of-found (byte ∷ bytes) = at (is_blank byte) refl (tokens_of-found bytes)
  where
    at : (b : Bool) → is_blank byte ≡ b → tokens_of bytes ≡ tokens_of (without_front_blanks bytes) → tokens_of (byte ∷ bytes) ≡ tokens_of (without_front_blanks (byte ∷ bytes))
    at true h same =
        plain_cons byte bytes (blank_quote byte h)
        ∙ ap (λ blank. chosen byte bytes (tokens_of bytes) (blank || is_quote byte) (byte == 40) (byte == 41) (is_operator_byte byte)) h
        ∙ same ∙ ap tokens_of (sym (found-cons true byte bytes h))
    at false h same = ap tokens_of (sym (found-cons false byte bytes h))

-- what stands behind them begins with no blank, and is no longer than all
pub found_first : (text found : List ℕ) → found ≡ without_front_blanks text → 1 ≤ length found → is_blank (slice_index found 0) ≡ false
found_first text found is some = subst (λ bytes. 1 ≤ length bytes → is_blank (slice_index bytes 0) ≡ false) (sym is) (of text) some
  where
    of : (text : List ℕ) → 1 ≤ length (without_front_blanks text) → is_blank (slice_index (without_front_blanks text) 0) ≡ false
    of [] h = absurd (omega arith)
    of (byte ∷ bytes) h = at (is_blank byte) refl (of bytes)
      where
        at : (b : Bool) → is_blank byte ≡ b → (1 ≤ length (without_front_blanks bytes) → is_blank (slice_index (without_front_blanks bytes) 0) ≡ false) →
            is_blank (slice_index (without_front_blanks (byte ∷ bytes)) 0) ≡ false
        at true g later =
            let same : without_front_blanks (byte ∷ bytes) ≡ without_front_blanks bytes = found-cons true byte bytes g in
            ap (λ found. is_blank (slice_index found 0)) same ∙ later (subst (λ found. 1 ≤ length found) same h)
        at false g later = ap (λ found. is_blank (slice_index found 0)) (found-cons false byte bytes g) ∙ g

pub found_short : (text found : List ℕ) → found ≡ without_front_blanks text → length found ≤ length text
found_short text found is = subst (λ bytes. length bytes ≤ length text) (sym is) (of text)
  where
    of : (text : List ℕ) → length (without_front_blanks text) ≤ length text
    of [] = omega arith
    of (byte ∷ bytes) = at (is_blank byte) refl (of bytes)
      where
        at : (b : Bool) → is_blank byte ≡ b → length (without_front_blanks bytes) ≤ length bytes → length (without_front_blanks (byte ∷ bytes)) ≤ length (byte ∷ bytes)
        at true g later = let e : length (without_front_blanks (byte ∷ bytes)) ≡ length (without_front_blanks bytes) = ap length (found-cons true byte bytes g) in omega arith
        at false g later = let e : length (without_front_blanks (byte ∷ bytes)) ≡ length (byte ∷ bytes) = ap length (found-cons false byte bytes g) in omega arith

-- no token stands in blanks
pub no_token : (text found : List ℕ) → found ≡ without_front_blanks text → length found < 1 → tokens_of text ≡ []
no_token text found is none = tokens_of-found text ∙ ap tokens_of (sym is ∙ nil_from_length found (omega arith))

-- all behind a place
pub all_behind : (n : ℕ) (text : List ℕ) → take (length text - n) (drop n text) ≡ drop n text
all_behind n text = take_all (length text - n) (drop n text) (omega (arith, length-drop n text))

-- A run of bytes that pass a test, as one token.
module _ (p : ℕ → Bool) (make : List ℕ → Token)
    (onto : (byte : ℕ) (bytes : List ℕ) (tokens : List Token) → onto_token byte (make bytes ∷ tokens) ≡ make (byte ∷ bytes) ∷ tokens)
    (step : (byte : ℕ) (bytes : List ℕ) → p byte ≡ true →
    tokens_of (byte ∷ bytes) ≡ (if first_passes p bytes then onto_token byte (tokens_of bytes) else make (byte ∷ []) ∷ tokens_of bytes)) where
  abbrev place : List ℕ → ℕ
  place text = position_or_len (λ byte. not (p byte)) text

  -- a text, and the run that it begins with
  abbrev BeginsWithRun : List ℕ → Type 0
  BeginsWithRun text = tokens_of text ≡ make (take (place text) text) ∷ tokens_of (drop (place text) text)

  begins_at : (n : ℕ) (text : List ℕ) → place text ≡ n → tokens_of text ≡ make (take n text) ∷ tokens_of (drop n text) → BeginsWithRun text
  begins_at n text is tokens = subst (λ m. tokens_of text ≡ make (take m text) ∷ tokens_of (drop m text)) (sym is) tokens

  place-cons : (b : Bool) (byte : ℕ) (bytes : List ℕ) → p byte ≡ b → place (byte ∷ bytes) ≡ cond b (suc (place bytes)) 0
  place-cons true byte bytes h = ap (λ c. cond (not (not c)) (1 + place bytes) 0) h ∙ one-add (place bytes)
  place-cons false byte bytes h = ap (λ c. cond (not (not c)) (1 + place bytes) 0) h

  run : (byte : ℕ) (bytes : List ℕ) → p byte ≡ true → BeginsWithRun (byte ∷ bytes)
  run byte [] h = begins_at 1 (byte ∷ []) (place-cons true byte [] h) (step byte [] h)
  run byte (next ∷ rest) h = at (p next) refl (run next rest)
    where
      at : (b : Bool) → p next ≡ b → (p next ≡ true → BeginsWithRun (next ∷ rest)) → BeginsWithRun (byte ∷ next ∷ rest)
      at true g later =
          begins_at (suc (place (next ∷ rest))) (byte ∷ next ∷ rest) (place-cons true byte (next ∷ rest) h)
          (step byte (next ∷ rest) h
          ∙ ap (λ c. if c then onto_token byte (tokens_of (next ∷ rest)) else make (byte ∷ []) ∷ tokens_of (next ∷ rest)) g
          ∙ ap (onto_token byte) (later g) ∙ onto byte _ _)
      at false g later =
          begins_at 1 (byte ∷ next ∷ rest) (place-cons true byte (next ∷ rest) h ∙ ap suc (place-cons false next rest g))
          (step byte (next ∷ rest) h
          ∙ ap (λ c. if c then onto_token byte (tokens_of (next ∷ rest)) else make (byte ∷ []) ∷ tokens_of (next ∷ rest)) g)

  run_of : (text : List ℕ) (byte : ℕ) (rest : List ℕ) (n : ℕ) (front back : List ℕ) → text ≡ byte ∷ rest → p byte ≡ true → n ≡ place text → front ≡ take n text → back ≡ drop n text →
      tokens_of text ≡ make front ∷ tokens_of back
  run_of text byte rest n front back whole h is front_is back_is =
      subst BeginsWithRun (sym whole) (run byte rest h)
      ∙ ap (λ m. make (take m text) ∷ tokens_of (drop m text)) (sym is)
      ∙ ap (λ bytes. make bytes ∷ tokens_of (drop n text)) (sym front_is)
      ∙ ap (λ bytes. make front ∷ tokens_of bytes) (sym back_is)

sign_skip : (byte : ℕ) → is_operator_byte byte ≡ true → (is_blank byte || is_quote byte) ≡ false
sign_skip byte sign = grind (arith, nat_tests)

sign_quote : (byte : ℕ) → is_operator_byte byte ≡ true → is_quote byte ≡ false
sign_quote byte sign = grind (arith, nat_tests)

sign_opening : (byte : ℕ) → is_operator_byte byte ≡ true → (byte == 40) ≡ false
sign_opening byte sign = grind (arith, nat_tests)

sign_closing : (byte : ℕ) → is_operator_byte byte ≡ true → (byte == 41) ≡ false
sign_closing byte sign = grind (arith, nat_tests)

sign_step : (byte : ℕ) (bytes : List ℕ) → is_operator_byte byte ≡ true →
    tokens_of (byte ∷ bytes) ≡ (if first_passes is_operator_byte bytes then onto_token byte (tokens_of bytes) else Sign (byte ∷ []) ∷ tokens_of bytes)
sign_step byte bytes h =
    plain_cons byte bytes (sign_quote byte h)
    ∙ chosen_by byte bytes (tokens_of bytes) false false false true (sign_skip byte h) (sign_opening byte h) (sign_closing byte h) h

word_skip : (byte : ℕ) → is_plain byte ≡ true → (is_blank byte || is_quote byte) ≡ false
word_skip byte plain = grind (arith, nat_tests)

word_quote : (byte : ℕ) → is_plain byte ≡ true → is_quote byte ≡ false
word_quote byte plain = grind (arith, nat_tests)

word_opening : (byte : ℕ) → is_plain byte ≡ true → (byte == 40) ≡ false
word_opening byte plain = grind (arith, nat_tests)

word_closing : (byte : ℕ) → is_plain byte ≡ true → (byte == 41) ≡ false
word_closing byte plain = grind (arith, nat_tests)

word_sign : (byte : ℕ) → is_plain byte ≡ true → is_operator_byte byte ≡ false
word_sign byte plain = grind (arith, nat_tests)

word_step : (byte : ℕ) (bytes : List ℕ) → is_plain byte ≡ true →
    tokens_of (byte ∷ bytes) ≡ (if first_passes is_plain bytes then onto_token byte (tokens_of bytes) else Word (byte ∷ []) ∷ tokens_of bytes)
word_step byte bytes h =
    plain_cons byte bytes (word_quote byte h)
    ∙ chosen_by byte bytes (tokens_of bytes) false false false false (word_skip byte h) (word_opening byte h) (word_closing byte h) (word_sign byte h)

-- a run of bytes of an operator, and one of a word
pub sign_run : (text : List ℕ) (byte : ℕ) (rest : List ℕ) (n : ℕ) (front back : List ℕ) → text ≡ byte ∷ rest → is_operator_byte byte ≡ true → n ≡ position_or_len (λ b. not (is_operator_byte b)) text → front ≡ take n text → back ≡ drop n text →
    tokens_of text ≡ Sign front ∷ tokens_of back
sign_run = run_of is_operator_byte Sign (λ byte bytes tokens. refl) sign_step

pub word_run : (text : List ℕ) (byte : ℕ) (rest : List ℕ) (n : ℕ) (front back : List ℕ) → text ≡ byte ∷ rest → is_plain byte ≡ true → n ≡ position_or_len (λ b. not (is_plain b)) text → front ≡ take n text → back ≡ drop n text →
    tokens_of text ≡ Word front ∷ tokens_of back
word_run = run_of is_plain Word (λ byte bytes tokens. refl) word_step

-- it ends within the text
pub place_within : (p : ℕ → Bool) (text : List ℕ) (n : ℕ) → n ≡ position_or_len p text → n ≤ length text
place_within p text n is = let within : position_or_len p text ≤ length text = position_or_len-le-length p text in omega arith

-- what is none of the other bytes stands in a word
pub is_word_byte : (byte : ℕ) → is_blank byte ≡ false → byte ≢ 34 → byte ≢ 40 → byte ≢ 41 → is_operator_byte byte ≡ false → is_plain byte ≡ true
is_word_byte byte blank quote opening closing sign = grind (arith, nat_tests)

-- A text in quotes ends at the next quote, and goes to the end of all where there is none.
quote-cons : (b : Bool) (byte : ℕ) (bytes : List ℕ) → is_quote byte ≡ b → position_or_len is_quote (byte ∷ bytes) ≡ cond b 0 (suc (position_or_len is_quote bytes))
quote-cons true byte bytes h = ap (λ c. cond (not c) (1 + position_or_len is_quote bytes) 0) h
quote-cons false byte bytes h = ap (λ c. cond (not c) (1 + position_or_len is_quote bytes) 0) h ∙ one-add (position_or_len is_quote bytes)

within-cons : (b : Bool) (byte : ℕ) (bytes : List ℕ) → is_quote byte ≡ b →
    tokens_from true (byte ∷ bytes) ≡ (if b then Quoted [] ∷ tokens_from false bytes else onto_token byte (tokens_from true bytes))
within-cons true byte bytes h = ap (λ q. if q then Quoted [] ∷ tokens_from (if q then false else true) bytes else onto_token byte (tokens_from (if q then false else true) bytes)) h
within-cons false byte bytes h = ap (λ q. if q then Quoted [] ∷ tokens_from (if q then false else true) bytes else onto_token byte (tokens_from (if q then false else true) bytes)) h

closed_at : (text : List ℕ) (n : ℕ) → position_or_len is_quote text ≡ n → n < length text → tokens_from true text ≡ Quoted (take n text) ∷ tokens_of (drop (suc n) text)
closed_at [] n is short = absurd (omega arith)
closed_at (byte ∷ bytes) n is short = at (is_quote byte) refl (closed_at bytes (position_or_len is_quote bytes) refl)
  where
    at : (b : Bool) → is_quote byte ≡ b →
        (position_or_len is_quote bytes < length bytes → tokens_from true bytes ≡ Quoted (take (position_or_len is_quote bytes) bytes) ∷ tokens_of (drop (suc (position_or_len is_quote bytes)) bytes)) →
        tokens_from true (byte ∷ bytes) ≡ Quoted (take n (byte ∷ bytes)) ∷ tokens_of (drop (suc n) (byte ∷ bytes))
    at true h later =
        within-cons true byte bytes h
        ∙ ap (λ m. Quoted (take m (byte ∷ bytes)) ∷ tokens_of (drop (suc m) (byte ∷ bytes))) (sym (quote-cons true byte bytes h) ∙ is)
    at false h later =
        let place : suc (position_or_len is_quote bytes) ≡ n = sym (quote-cons false byte bytes h) ∙ is in
        within-cons false byte bytes h
        ∙ ap (onto_token byte) (later (omega arith))
        ∙ ap (λ m. Quoted (take m (byte ∷ bytes)) ∷ tokens_of (drop (suc m) (byte ∷ bytes))) place

pub quote_closed : (text : List ℕ) (n : ℕ) → n ≡ position_or_len is_quote text → n < length text → tokens_from true text ≡ Quoted (take n text) ∷ tokens_of (drop (n + 1) text)
quote_closed text n is short = closed_at text n (sym is) short ∙ (let e : suc n ≡ n + 1 = omega arith in ap (λ m. Quoted (take n text) ∷ tokens_of (drop m text)) e)

open_at : (text : List ℕ) → length text ≤ position_or_len is_quote text → tokens_from true text ≡ Unclosed ∷ []
open_at [] long = refl
open_at (byte ∷ bytes) long = at (is_quote byte) refl (open_at bytes)
  where
    at : (b : Bool) → is_quote byte ≡ b → (length bytes ≤ position_or_len is_quote bytes → tokens_from true bytes ≡ Unclosed ∷ []) → tokens_from true (byte ∷ bytes) ≡ Unclosed ∷ []
    at true h later = absurd (let e : position_or_len is_quote (byte ∷ bytes) ≡ 0 = quote-cons true byte bytes h in omega arith)
    at false h later =
        let e : position_or_len is_quote (byte ∷ bytes) ≡ suc (position_or_len is_quote bytes) = quote-cons false byte bytes h in
        within-cons false byte bytes h ∙ ap (onto_token byte) (later (omega arith))

pub quote_open : (text : List ℕ) (n : ℕ) → n ≡ position_or_len is_quote text → length text ≤ n → tokens_from true text ≡ Unclosed ∷ []
quote_open text n is long = open_at text (omega (arith, is))
