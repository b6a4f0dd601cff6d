-- Blanks open no quote and close none.
use Rattle.std.proofs.Common.{◌≡◌, ℕ, Bool, true, false, cond, not, ◌==◌, ◌||◌, List, [], ◌∷◌, ◌++◌, refl, ap, sym, ◌∙◌}
use Rattle.std.specs.Prelude.{fold, reverse}
use Rattle.std.proofs.lemmas.Bool.{eqb-true}
use Rattle.std.proofs.lemmas.List.{reverse-append}
use Rattle.moos_text.specs.Lines.{is_blank, is_quoted_after, is_unclosed, trimmed, without_front_blanks}

-- whether a quote is open behind bytes, from here on
abbrev quoted : Bool → List ℕ → Bool
quoted before bytes = fold is_quoted_after before bytes

blank_keeps : (before : Bool) (byte : ℕ) → is_blank byte ≡ true → is_quoted_after before byte ≡ before
blank_keeps before byte blank = at (byte == 32) (byte == 9) refl refl blank
  where
    at : (space tab : Bool) → (byte == 32) ≡ space → (byte == 9) ≡ tab → (space || tab) ≡ true → is_quoted_after before byte ≡ before
    at true tab e f h = let is : byte ≡ 32 = eqb-true byte 32 e in ap (is_quoted_after before) is
    at false true e f h = let is : byte ≡ 9 = eqb-true byte 9 f in ap (is_quoted_after before) is
    at false false e f h = absurd cc

front_keeps : (before : Bool) (bytes : List ℕ) → quoted before (without_front_blanks bytes) ≡ quoted before bytes
front_keeps before [] = refl
front_keeps before (byte ∷ bytes) = at (is_blank byte) refl (front_keeps before bytes)
  where
    at : (b : Bool) → is_blank byte ≡ b → quoted before (without_front_blanks bytes) ≡ quoted before bytes → quoted before (without_front_blanks (byte ∷ bytes)) ≡ quoted before (byte ∷ bytes)
    at true e more = rw (e, blank_keeps before byte e) more
    at false e more = rw e refl

-- the order of the bytes doesn't matter
quoted_append : (before : Bool) (xs ys : List ℕ) → quoted before (xs ++ ys) ≡ quoted (quoted before xs) ys
quoted_append before [] ys = refl
quoted_append before (x ∷ xs) ys = quoted_append (is_quoted_after before x) xs ys

swap : (before : Bool) (x y : ℕ) → is_quoted_after (is_quoted_after before x) y ≡ is_quoted_after (is_quoted_after before y) x
swap before x y = at (x == 34) (y == 34) before
  where
    at : (a b q : Bool) → cond b (not (cond a (not q) q)) (cond a (not q) q) ≡ cond a (not (cond b (not q) q)) (cond b (not q) q)
    at true true q = refl
    at true false q = refl
    at false true q = refl
    at false false q = refl

later : (before : Bool) (x : ℕ) (xs : List ℕ) → quoted (is_quoted_after before x) xs ≡ is_quoted_after (quoted before xs) x
later before x [] = refl
later before x (y ∷ ys) = ap (λ q. quoted q ys) (swap before x y) ∙ later (is_quoted_after before y) x ys

reverse_keeps : (before : Bool) (xs : List ℕ) → quoted before (reverse xs) ≡ quoted before xs
reverse_keeps before [] = refl
reverse_keeps before (x ∷ xs) =
    ap (quoted before) (reverse-append (x ∷ []) xs) ∙ quoted_append before (reverse xs) (x ∷ [])
    ∙ ap (λ q. is_quoted_after q x) (reverse_keeps before xs) ∙ sym (later before x xs)

-- a text without the blanks at its ends leaves a quote open where it does with them
pub trimmed_quotes : (bytes : List ℕ) → is_unclosed (trimmed bytes) ≡ is_unclosed bytes
trimmed_quotes bytes =
    let front = without_front_blanks bytes in
    reverse_keeps false (without_front_blanks (reverse front)) ∙ front_keeps false (reverse front) ∙ reverse_keeps false front ∙ front_keeps false bytes
